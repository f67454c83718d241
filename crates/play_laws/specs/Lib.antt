pub mod Stepping
pub mod Underway
