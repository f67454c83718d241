pub mod Places
pub mod BlankLaws
pub mod HomeRows
pub mod Kept
pub mod Admitted
pub mod Unmade
