pub mod Walks
pub mod Lengths
pub mod Tellings
pub mod Finishing
