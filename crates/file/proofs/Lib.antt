pub mod Writing
pub mod Decimals
pub mod Joins
pub mod Lines
pub mod Bounds
pub mod Told
pub mod OneReading
pub mod FirstBytes
