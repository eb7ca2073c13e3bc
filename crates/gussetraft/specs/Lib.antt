pub mod Exported
pub mod PlainRooms
