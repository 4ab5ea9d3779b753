pub mod Faults
pub mod Choosing
pub mod Playing
pub mod Sharing
pub mod Receipts
pub mod Turns
