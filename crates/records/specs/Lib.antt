pub mod Map
pub mod Cell
pub mod Rows
pub mod Fresh
pub mod Stock
pub mod Build
