pub mod Telling
pub mod Patched
pub mod Bytes
pub mod Writing
