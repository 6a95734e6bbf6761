pub mod Shapes
pub mod Whole
