pub mod Packing
pub mod Walk
pub mod Laws
pub mod Pins
