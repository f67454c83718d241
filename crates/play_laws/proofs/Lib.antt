pub mod Begins
pub mod CanStep
pub mod Leaves
pub mod Losses
pub mod Rounds
pub mod Stepping
pub mod Turned
