pub mod ViewLaws
pub mod PlaceLaws
pub mod SearchLaws
