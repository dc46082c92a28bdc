mod Firsts
mod OneVersion
mod Replays
mod Worked
