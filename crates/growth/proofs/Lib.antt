-- Laws of the growth.
pub mod Stopped
pub mod FloodLaws
pub mod SpreadLaws
pub mod StackLaws
pub mod LoadLaws
pub mod KeptLaws
pub mod ExpandTurn
pub mod FloodTurn
pub mod WholeTurn
pub mod TurnsLaws
pub mod GrowLaws
pub mod FirstLaws
pub mod OneGrowth
