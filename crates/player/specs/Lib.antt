pub mod Replies
pub mod Prepared
pub mod Lines
