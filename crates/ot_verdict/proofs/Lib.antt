pub mod Idle
pub mod Keeping
pub mod Ending
pub mod Examples
pub mod Arrivals
pub mod First
pub mod Named
mod Gathering
mod Entries
