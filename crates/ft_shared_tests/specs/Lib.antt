pub mod Scans
pub mod Author
