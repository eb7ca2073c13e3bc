-- Definitions that the code's promises are stated by.
pub mod Parts
pub mod Records
pub mod Answer
pub mod Ids
pub mod Into
