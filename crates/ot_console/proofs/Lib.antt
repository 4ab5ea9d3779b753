pub mod Splitting
pub mod Loops
