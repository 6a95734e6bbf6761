pub mod Generator
pub mod Claims
pub mod Jumps
