pub mod Numbering
pub mod Composing
pub mod Feeding
pub mod Bounding
