pub mod Clips
pub mod Lawful
