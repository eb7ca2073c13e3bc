pub mod Map
pub mod View
