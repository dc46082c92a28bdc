pub mod Bounds
pub mod Looping
pub mod Points
pub mod Starting
pub mod Staying
