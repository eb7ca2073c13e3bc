pub mod Form
pub mod Answer
pub mod Stages
pub mod Explain
pub mod Into
