-- Theorems about the record of floor sizes: its floats (Exact, Meaning), its counts (Counts), its edges and its area (Edges); all of these of the entry's outcome
-- (Room), and that a finished result is measured whatever the id (Finished).
pub mod Exact
pub mod Meaning
pub mod Counts
pub mod Edges
pub mod Room
pub mod Finished
