pub mod Actors
pub mod Wellness
pub mod Belonging
pub mod Sights
