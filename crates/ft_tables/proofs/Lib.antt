pub mod Amiga
pub mod Octaves
mod Worked
