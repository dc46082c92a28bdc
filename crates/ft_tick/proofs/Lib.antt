mod Lanes
mod Seating
mod Ranges
mod Kept
mod Sitting
mod Gathering
mod Parts
mod RowRules
mod Making
pub mod Showing
pub mod Hearings
