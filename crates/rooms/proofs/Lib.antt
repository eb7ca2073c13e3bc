-- Demand 3: each room is one area, joined, and the rooms are numbered without a gap.
pub mod Joins
pub mod Forward
pub mod Expanding
pub mod Flooding
pub mod Growing
pub mod Listing
pub mod Filtering
pub mod Merging
pub mod Numbering
pub mod Rooms
pub mod Entry
pub mod FailedFlood
pub mod Bare
pub mod Dense
