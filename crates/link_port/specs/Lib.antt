pub mod Spelled
pub mod Gated
pub mod Failing
pub mod Steps
pub mod Hearing
pub mod Exchanging
pub mod Direct
