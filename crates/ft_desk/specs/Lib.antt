pub mod Parts
pub mod Desk
pub mod Laws
pub mod Survey
