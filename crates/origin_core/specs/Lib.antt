pub mod Page
pub mod Host
pub mod Tuple
pub mod Origin
pub mod Site
pub mod Flags
