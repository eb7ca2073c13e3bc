pub mod Earlier
pub mod Walks
pub mod Values
pub mod Sides
pub mod Bounds
pub mod Blurs
