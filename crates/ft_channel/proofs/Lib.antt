pub mod Lists
pub mod Starts
pub mod Staying
pub mod Turning
pub mod Lines
