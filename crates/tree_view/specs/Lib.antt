pub mod Rows
pub mod NewRows
pub mod Closed
pub mod Shown
pub mod Ordered
pub mod Committing
pub mod Grown
