-- Lemmas that several proofs share.
pub mod Parts
pub mod Runs
pub mod Same
pub mod Inverse
pub mod Reading
pub mod Changed
pub mod Writing
pub mod InPlace
pub mod Examples
pub mod Counted
