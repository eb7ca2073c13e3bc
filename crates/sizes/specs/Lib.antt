-- What the promises of floor sizes cite.
pub mod Walk
pub mod Answer
pub mod Into
