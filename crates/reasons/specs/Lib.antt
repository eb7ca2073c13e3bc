-- What is said of the reasons: growth with the story beside it, the last id of a trail, and which reason is the first.
pub mod Traced
pub mod First
pub mod Log
pub mod Why
