pub mod Between
pub mod Euclid
pub mod Powers
pub mod Wide
pub mod Words
