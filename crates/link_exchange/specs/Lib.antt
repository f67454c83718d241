pub mod Beginning
pub mod Hearing
pub mod Calls
pub mod Ending
