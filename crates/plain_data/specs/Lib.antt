pub mod Ascending
pub mod Commas
pub mod DataLimits
pub mod DataText
pub mod Same
pub mod formers
