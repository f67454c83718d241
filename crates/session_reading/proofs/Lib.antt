pub mod Read
pub mod Lists
pub mod Depths
pub mod PartsInRange
pub mod SizeLevels
pub mod KeysAscend
pub mod TidyRead
