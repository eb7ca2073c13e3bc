pub mod Apart
pub mod OneAnswer
pub mod PlainRooms
pub mod MeasuredOnce
pub mod Finished
