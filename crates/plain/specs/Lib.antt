-- What the promises of plain rooms cite.
pub mod Stack
pub mod Stages
pub mod PlainRooms
pub mod Answer
