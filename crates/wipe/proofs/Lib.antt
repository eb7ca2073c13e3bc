-- What is proved of the wiping.
pub mod Wiped
