pub mod Calls
pub mod Owning
