-- The entries that exchanges make, one at a time, and how trees grow by them.
pub mod Entries
pub mod Lists
pub mod Exchanges
pub mod Activity
pub mod Steps
pub mod Admitted
pub mod Older
pub mod Discarded
pub mod Asked
pub mod Fence
