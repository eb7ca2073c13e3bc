pub mod Links
pub mod Answer
