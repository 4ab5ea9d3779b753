mod Arrays
mod Examples
mod Folding
mod Gathering
pub mod Running
mod Untagging
mod Short
mod Texts
pub mod Progress
pub mod Quiet
