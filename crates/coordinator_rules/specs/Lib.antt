pub mod Names
pub mod Navigation
pub mod NextTask
pub mod Decision
pub mod Told
