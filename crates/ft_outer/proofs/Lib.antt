pub mod Taken
pub mod Gave
