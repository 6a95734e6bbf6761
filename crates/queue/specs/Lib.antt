pub mod Queued
pub mod Lawful
