-- Definitions that the theorems are stated by and that document 01 does not have.
-- Code that goes another way than a rule may cite them in its promise.
pub mod Squeeze
pub mod Sums
