mod Parts
mod BlockCells
mod Patterns
