-- Definitions that the code's promises are stated by.
pub mod Walk
pub mod Grid
pub mod Answer
