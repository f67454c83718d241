pub mod Homes
pub mod Messages
pub mod Posting
