pub mod Written
pub mod Reads
pub mod Shown
