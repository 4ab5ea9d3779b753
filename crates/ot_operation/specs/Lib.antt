pub mod Operation
pub mod Run
pub mod Steps
pub mod Compose
pub mod Merge
pub mod Laws
