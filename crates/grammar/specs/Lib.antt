pub mod Ebnf
pub mod Reader
pub mod Codes
pub mod Language
pub mod Sets
pub mod Claims
