pub mod Messages
pub mod Shop
pub mod Cited
pub mod OldDocuments
pub mod Domains
pub mod Replies
pub mod LostTasks
pub mod AlikeLinks
