pub mod Reached
pub mod Nearest
pub mod Shown
pub mod Causes
pub mod Notes
pub mod Faults
pub mod Words
pub mod Laws
