pub mod Convergence
pub mod Laws
pub mod Rows
pub mod Following
pub mod Insertions
pub mod Traced
