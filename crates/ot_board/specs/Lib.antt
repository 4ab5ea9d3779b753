pub mod Tiling
pub mod Sessions
pub mod Lents
pub mod Boards
