pub mod Upward
pub mod Openers
pub mod Children
pub mod Walked
pub mod Elsewhere
