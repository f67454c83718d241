mod Firsts
mod Short
