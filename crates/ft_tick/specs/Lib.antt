pub mod Bounds
pub mod Voices
