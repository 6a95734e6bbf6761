pub mod Tags
pub mod Lays
pub mod Joins
pub mod Parts
