-- Laws of the rows and of the loops over them, and that the entries leave nothing open (OneAnswer).
pub mod Parts
pub mod Turns
pub mod Entries
pub mod Numbers
pub mod OneAnswer
