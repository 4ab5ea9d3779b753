pub mod Session
pub mod Stops
pub mod Answers
pub mod Laws
pub mod Stepping
pub mod Changes
