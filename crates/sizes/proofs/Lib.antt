-- Laws of floor sizes.
pub mod Exact
pub mod Tests
pub mod WalkLaws
pub mod Outcome
pub mod Numbers
