-- What the contracts of this crate cite.
pub mod Leaves
pub mod Spans
pub mod Change
pub mod Written
