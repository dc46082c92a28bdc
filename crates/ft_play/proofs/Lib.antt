mod Sitting
mod Joined
mod Whole
mod Half
