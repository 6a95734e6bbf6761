pub mod Symbols
pub mod Value
pub mod Syntax
pub mod Actions
pub mod Steps
pub mod Post
pub mod Forms
