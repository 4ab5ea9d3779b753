pub mod Carried
pub mod Ends
pub mod Followed
pub mod Recorded
