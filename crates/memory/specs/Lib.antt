pub mod Nested
pub mod Seen
