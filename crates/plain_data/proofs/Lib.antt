pub mod AscendingLaws
pub mod Texts
pub mod SameLaw
