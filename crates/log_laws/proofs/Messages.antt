-- Messages end once, in order, where they are for.
pub mod Inactive
pub mod Endings
pub mod FirstTasks
pub mod MessageEnds
pub mod MessageOrder
pub mod MessageGroups
pub mod PostedTo
