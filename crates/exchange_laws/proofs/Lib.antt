pub mod Made
pub mod Owned
pub mod Posted
pub mod Fit
