mod Sums
mod Stretches
mod Balance
mod Gone
mod Places
mod Causes
mod FramesChanged
mod EachEdit
