pub mod Owing
pub mod Moving
pub mod Resting
pub mod Walking
pub mod Reading
pub mod Draining
