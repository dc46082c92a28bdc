mod Floor
mod Parts
mod Stored
mod Costs
mod Sums
mod Turns
mod Sounds
mod After
