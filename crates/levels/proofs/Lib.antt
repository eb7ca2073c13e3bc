pub mod LevelLaws
pub mod CarryLaws
pub mod SortLaws
pub mod BlockLaws
pub mod TurnLaws
pub mod AppendLaws
