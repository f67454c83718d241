pub mod History
pub mod Books
pub mod Refusals
pub mod Serving
pub mod Answering
