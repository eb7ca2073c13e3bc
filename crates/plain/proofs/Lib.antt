-- Laws of plain rooms.
pub mod FillLaws
pub mod Joining
pub mod Filled
pub mod Numbered
pub mod Checks
pub mod Stages
pub mod Outcome
pub mod Spreading
pub mod Scanning
pub mod Meaning
pub mod Calls
pub mod Measured
