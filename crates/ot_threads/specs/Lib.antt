pub mod Concluded
pub mod Follows
pub mod Record
pub mod Stepping
pub mod Threaded
