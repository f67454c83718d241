pub mod HomesStay
pub mod Twins
pub mod NextTwins
pub mod Pairs
pub mod Worlds
pub mod Starts
