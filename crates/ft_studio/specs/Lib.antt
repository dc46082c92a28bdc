pub mod Outside
pub mod Running
