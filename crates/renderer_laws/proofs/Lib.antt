pub mod HomedBefore
pub mod Moving
pub mod ToldTasks
pub mod Kept
