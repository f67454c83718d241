pub mod Parts
pub mod Entries
pub mod Outcomes
pub mod Cut
