-- What is said of a refresh: the edit before it, and that it comes to a build from nothing.
pub mod Edit
