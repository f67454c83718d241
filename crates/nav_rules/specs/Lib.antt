pub mod Chosen
pub mod Walks
