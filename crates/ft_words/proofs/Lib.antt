pub mod Chain
pub mod Given
pub mod Arguments
pub mod Split
pub mod One
