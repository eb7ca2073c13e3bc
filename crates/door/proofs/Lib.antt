-- Opening a door, as theorems about the rules alone.
pub mod Places
pub mod Agree
pub mod Fixed
pub mod Starts
pub mod Redone
pub mod Accepted
pub mod Held
pub mod Door
