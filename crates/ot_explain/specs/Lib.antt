pub mod Words
pub mod Told
pub mod Reasons
pub mod Placed
pub mod Agreeing
pub mod OutlookJson
pub mod Explained
