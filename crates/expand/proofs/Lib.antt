-- Laws of the expansion.
pub mod Lists
pub mod Looks
pub mod Halves
pub mod Trying
pub mod Sources
pub mod Waves
pub mod Fronts
pub mod Writes
pub mod Tellings
pub mod Wholes
pub mod Flagged
pub mod Stacks
pub mod Walks
pub mod Ends
pub mod Blanks
