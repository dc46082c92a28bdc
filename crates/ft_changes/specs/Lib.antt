pub mod Parts
pub mod Reaches
pub mod Ids
pub mod Dropped
pub mod Reached
pub mod Fits
pub mod Laws
