-- Laws of a net that is lent.
pub mod Tables
pub mod Fills
