pub mod Seen
pub mod KeepsRule
pub mod Tidied
pub mod Rows
pub mod Gathers
pub mod Closing
pub mod Exchange
