pub mod GroupLaws
pub mod RemoveLaws
pub mod FilterLaws
