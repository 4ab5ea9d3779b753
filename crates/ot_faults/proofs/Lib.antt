mod Above
mod Bytes
mod Made
mod Ranged
mod Starts
mod Taken
