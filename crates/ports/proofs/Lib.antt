pub mod Width
pub mod Integers
pub mod Changing
pub mod Layering
pub mod Joining
