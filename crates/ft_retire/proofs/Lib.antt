pub mod Marking
pub mod Living
pub mod Undoing
pub mod Counting
pub mod Opening
