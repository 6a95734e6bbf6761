pub mod Told
pub mod Settling
pub mod Shown
