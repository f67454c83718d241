pub mod Answered
pub mod Served
pub mod Carried
pub mod Gated
pub mod Failing
pub mod Talked
pub mod Direct
