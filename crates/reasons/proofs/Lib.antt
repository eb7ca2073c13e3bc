-- Reasons, as theorems about the rules alone.
pub mod Shadow
pub mod Sources
pub mod Written
pub mod Replays
pub mod Settled
pub mod Logged
pub mod Trails
pub mod Groups
pub mod Room
pub mod Finals
pub mod Reasons
pub mod Why
