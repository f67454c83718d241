mod Ending
mod Kept
mod Performing
pub mod Sounding
