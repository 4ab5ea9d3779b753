pub mod Elements
pub mod Letters
pub mod Alike
pub mod Laws
