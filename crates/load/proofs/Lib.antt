mod Ways
pub mod Pieces
pub mod Loads
pub mod Stored
pub mod Whole
pub mod Fine
pub mod Places
pub mod Ended
pub mod Exact
pub mod OneAnswer
pub mod Calls
