pub mod Layout
pub mod Notes
pub mod Effects
pub mod Patterns
pub mod Samples
pub mod Songs
pub mod ModFields
pub mod Answers
