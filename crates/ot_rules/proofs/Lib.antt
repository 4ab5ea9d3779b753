mod Over
mod Reached
