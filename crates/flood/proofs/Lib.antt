-- Laws of the flood.
pub mod Goods
pub mod Sight
pub mod Pushes
pub mod Visits
pub mod Floods
pub mod Stories
