pub mod Samples
pub mod Pins
pub mod Named
pub mod Bare
pub mod Words
