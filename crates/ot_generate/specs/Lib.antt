pub mod Left
pub mod Shapes
pub mod Walks
pub mod Generated
pub mod Completed
pub mod Completing
