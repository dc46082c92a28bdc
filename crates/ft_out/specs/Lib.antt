pub mod Laws
pub mod Wav
