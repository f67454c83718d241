-- What the contracts of this crate cite.
pub mod Telling
pub mod Within
