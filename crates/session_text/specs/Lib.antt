pub mod Range
pub mod Session
pub mod Steps
pub mod Summary
