pub mod NumberLaws
pub mod NumberedLaws
