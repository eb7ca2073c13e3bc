-- What the flood's contracts cite.
pub mod Looks
pub mod Stack
pub mod Stories
