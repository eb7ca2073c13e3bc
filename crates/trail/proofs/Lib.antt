-- What is proved of the trail's code.
pub mod Steps
