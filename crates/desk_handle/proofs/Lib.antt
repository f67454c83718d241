mod Pointers
mod Short
