pub mod Part
pub mod Redo
pub mod Answer
pub mod Into
