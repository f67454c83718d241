-- Windows, registers and properties stay in their group.
pub mod Well
pub mod Choices
pub mod Grouped
pub mod Chosen
pub mod Reached
pub mod Changed
pub mod Closed
pub mod ClosedLogs
pub mod MadeWindows
pub mod Written
