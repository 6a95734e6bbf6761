pub mod Orders
pub mod Replies
pub mod Shown
