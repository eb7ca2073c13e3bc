pub mod Room
pub mod Areas
pub mod EdgeLaws
pub mod PoolLaws
pub mod WalkLaws
