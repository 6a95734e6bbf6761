pub mod Bands
pub mod Division
pub mod Ends
pub mod Sets
