pub mod Homes
pub mod Plays
pub mod Messages
pub mod Records
