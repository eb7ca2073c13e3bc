pub mod Ranges
pub mod Checks
pub mod Answered
pub mod Refused
pub mod Counted
pub mod Halves
pub mod Numbers
pub mod Lengths
