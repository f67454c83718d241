pub mod Newest
pub mod Turning
pub mod Fewer
pub mod Come
pub mod Unserved
pub mod Unnamed
