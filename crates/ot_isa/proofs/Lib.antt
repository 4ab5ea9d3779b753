pub mod Lists
pub mod TagLists
pub mod ScalarLists
pub mod Examples
