pub mod Acts
pub mod Holding
pub mod Fitting
pub mod Sound
pub mod Turning
pub mod Calls
pub mod Held
pub mod Worker
