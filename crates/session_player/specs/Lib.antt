pub mod Growing
pub mod There
pub mod Quiet
pub mod Serves
pub mod Steps
pub mod Held
pub mod Underway
pub mod ThereProps
