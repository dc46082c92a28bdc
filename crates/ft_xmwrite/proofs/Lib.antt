pub mod Drawn
pub mod Generated
pub mod Pieces
mod WorkedDraws
pub mod Steps
mod Counted
