-- Theorems about the rules alone, with no program logic: the definitions' fuel is never seen, ids and sums have room, lengths are kept.
-- They assume nothing but what each states; Basics holds the laws that no one rule owns.
pub mod Basics
pub mod Sums
pub mod Plain
pub mod Lengths
pub mod Cells
pub mod Nets
pub mod Passes
pub mod Rows
pub mod FloodArea
pub mod FloodEnds
pub mod Settles
pub mod NextId
pub mod Grows
pub mod Suffice
pub mod Strides
pub mod Tidy
pub mod LiveRecords
pub mod FilterEnds
pub mod MergeEnds
pub mod FileEnds
