pub mod Tags
pub mod Characters
pub mod Numbers
pub mod Signs
