-- Theorems about the two forms of a stored result (Runs, Bytes, Room, Back); what the full reader says of one span (Told), that the reader of one stretch says the
-- same (Same) and no other bytes matter (Only), and so what it says and how much it looks at (Asked).
pub mod Runs
pub mod Bytes
pub mod Room
pub mod Back
pub mod Told
pub mod Same
pub mod Only
pub mod Asked
