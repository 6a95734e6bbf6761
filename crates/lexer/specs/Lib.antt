pub mod Leads
pub mod Scan
pub mod Records
pub mod Reading
pub mod Refusals
