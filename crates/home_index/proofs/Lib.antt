mod Places
mod Keys
mod Found
mod Answered
mod Grown
