-- What growth's contracts cite.
pub mod Floods
pub mod Turns
pub mod Stops
pub mod Grow
