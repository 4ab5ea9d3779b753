mod Added
pub mod RoundTrip
pub mod Built
mod Counted
pub mod Faults
mod PlainText
pub mod Lists
