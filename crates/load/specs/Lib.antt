pub mod Numbers
pub mod Into
pub mod Calls
