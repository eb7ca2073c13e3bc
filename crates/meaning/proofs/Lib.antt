-- What the distance means, as theorems about the rules alone: no sum of a pass exceeds 65,535 (Sums); a raw value is the cost of a chain (Chains), of
-- the cheapest one where a cell has one span (OneSpan) but not on every field (Crossed); on an open field it is twice the way to the nearest side (Open);
-- no blurred value exceeds max_distance (Blurred).
pub mod Places
pub mod Passes
pub mod Settled
pub mod Sums
pub mod Blurred
pub mod Chains
pub mod Cheapest
pub mod OneSpan
pub mod OpenField
pub mod OpenNotRefused
pub mod Open
pub mod Crossed
pub mod Meant
