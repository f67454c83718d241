mod Deciding
mod Legal
mod Losing
pub mod Turning
