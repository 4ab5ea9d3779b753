pub mod Operations
pub mod Sides
pub mod Steps
pub mod Runs
pub mod Alike
pub mod Examples
