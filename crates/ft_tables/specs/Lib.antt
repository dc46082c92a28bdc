pub mod Pitch
pub mod Waves
