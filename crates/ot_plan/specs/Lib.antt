pub mod Plan
pub mod Reading
pub mod Layout
pub mod Lines
pub mod Typing
