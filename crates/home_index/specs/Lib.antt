pub mod Rows
pub mod Keyed
