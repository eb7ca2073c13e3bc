pub mod PutLaws
pub mod CellLaws
pub mod BorderLaws
