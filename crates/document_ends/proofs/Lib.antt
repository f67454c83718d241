pub mod Places
pub mod Steps
pub mod Walks
pub mod Ending
pub mod Climbing
pub mod Feeding
pub mod Openers
