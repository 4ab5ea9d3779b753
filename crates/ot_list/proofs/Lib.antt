-- Lemmas that several proofs share, and that the crates above may cite.
pub mod Drafted
pub mod Examples
pub mod Keeping
pub mod Leaved
pub mod Merging
pub mod Moved
pub mod Replacing
pub mod Through
pub mod Room
