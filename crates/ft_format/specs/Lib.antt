pub mod Fields
pub mod Header
pub mod Pattern
pub mod Sample
pub mod Instrument
pub mod Spelling
pub mod Canon
pub mod Laws
