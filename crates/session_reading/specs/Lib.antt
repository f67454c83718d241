pub mod Forms
pub mod Levels
pub mod Names
pub mod PathText
pub mod PlainData
pub mod Reading
pub mod Refusing
pub mod Tidy
