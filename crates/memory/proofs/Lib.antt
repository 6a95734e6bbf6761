pub mod Rows
pub mod Raw
pub mod Piling
