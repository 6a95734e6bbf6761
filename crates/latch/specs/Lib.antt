pub mod Latched
pub mod Lawful
