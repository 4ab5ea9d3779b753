pub mod Call
pub mod Calling
pub mod Text
pub mod Wrong
pub mod Units
pub mod Texts
pub mod Notes
pub mod Explained
