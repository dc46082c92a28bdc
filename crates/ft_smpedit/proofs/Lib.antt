mod Places
mod Changed
mod Refilled
mod Packs
mod Once
mod SlotWords
mod Touched
