pub mod Small
pub mod Changed
pub mod Instruments
pub mod Samples
