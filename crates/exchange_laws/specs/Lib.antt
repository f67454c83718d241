pub mod Own
pub mod Fit
