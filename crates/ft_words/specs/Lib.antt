pub mod Commands
pub mod Refused
pub mod Files
pub mod Answer
pub mod Laws
