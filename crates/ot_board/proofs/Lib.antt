mod Tiles
mod Heads
mod Moves
mod Boarding
mod Owning
mod Performing
pub mod Replaying
