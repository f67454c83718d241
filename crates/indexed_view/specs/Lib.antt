pub mod Lists
pub mod Families
pub mod Live
pub mod Marks
pub mod Index
pub mod Shown
