pub mod Loaded
pub mod Fed
