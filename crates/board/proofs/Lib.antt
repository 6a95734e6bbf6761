pub mod Showing
pub mod Turning
