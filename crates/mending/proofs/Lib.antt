-- Where a span is (Spots), one byte after another (Bytes), and the whole file (Files).
pub mod Spots
pub mod Bytes
pub mod Files
