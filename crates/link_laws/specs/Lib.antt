pub mod Standing
pub mod Faring
pub mod Playing
pub mod Talking
