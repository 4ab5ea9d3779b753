pub mod Due
pub mod Forms
pub mod Listing
pub mod Laws
pub mod Parts
pub mod Printed
pub mod Spaces
pub mod Walking
