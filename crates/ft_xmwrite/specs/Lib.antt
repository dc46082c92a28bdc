pub mod Generate
