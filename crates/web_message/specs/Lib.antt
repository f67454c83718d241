pub mod Cloning
pub mod Tasks
