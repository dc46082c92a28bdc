pub mod Songs
pub mod Roots
pub mod Laws
