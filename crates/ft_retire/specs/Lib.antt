pub mod Lives
pub mod Marks
pub mod Births
pub mod Laws
