pub mod Mixing
