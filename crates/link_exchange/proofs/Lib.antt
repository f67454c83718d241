pub mod Courses
pub mod Joining
pub mod Following
pub mod Taking
pub mod Going
