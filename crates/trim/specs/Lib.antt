pub mod Trims
pub mod Lawful
