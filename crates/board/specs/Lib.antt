pub mod Refusals
pub mod Seen
