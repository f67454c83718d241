-- The lemmas of this crate.
pub mod Homes
pub mod News
pub mod Places
pub mod Room
pub mod Steps
