-- Documents of one group and one origin have one home, so a renderer is told all that its documents see.
pub mod Homed
pub mod Grown
pub mod HomeLaw
pub mod Told
pub mod PlayedHomes
pub mod Domains
