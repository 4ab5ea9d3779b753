pub mod Surveyed
pub mod Empty
