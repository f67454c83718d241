pub mod Queues
pub mod Rows
pub mod FirstTasks
pub mod Later
pub mod Over
pub mod Feeding
pub mod Openers
