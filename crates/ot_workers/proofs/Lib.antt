mod Round
mod Heard
mod Counted
mod Receipted
mod Uplinks
mod Seen
pub mod Fresh
mod Takes
mod Shortages
mod Unsettled
