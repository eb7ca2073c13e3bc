pub mod Lent
pub mod Blocks
pub mod Seen
