-- What is said of the distance: the sums of its passes, moves and chains of them, places of an open field, and a field where raw is above the
-- cheapest chain.
pub mod Sums
pub mod Moves
pub mod Open
pub mod Crossed
pub mod Meant
