pub mod Histories
pub mod Before
pub mod Places
pub mod Stages
pub mod Tidy
pub mod Steps
pub mod Rule
pub mod Rows
