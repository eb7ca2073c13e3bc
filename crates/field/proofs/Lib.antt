pub mod Loops
pub mod Places
pub mod Passed
pub mod Blocks
