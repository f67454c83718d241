-- The logs of plays: their length, and who acts in them.
pub mod Commits
pub mod InitialUrls
pub mod Stopped
pub mod Lengths
pub mod Played
pub mod Adds
