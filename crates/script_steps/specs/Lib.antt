pub mod Slots
pub mod Kind
pub mod Rows
pub mod Kept
pub mod Stored
pub mod Reached
pub mod Asked
