pub mod Ends
pub mod Digits
pub mod Texts
pub mod Starts
pub mod Running
pub mod Known
pub mod Listed
pub mod Whole
pub mod Spelled
pub mod Read
pub mod Visible
pub mod Printing
pub mod Formed
pub mod Numbered
pub mod WholeLines
pub mod CanonicalSpelled
pub mod Only
mod ByNumber
mod Examples
mod Joined
mod Listing
mod Reading
mod Runs
