pub mod Lists
pub mod Forms
pub mod Machines
pub mod There
pub mod Nexts
pub mod Listed
pub mod Distinct
pub mod Least
pub mod Quiet
pub mod Complete
pub mod Valid
pub mod Printed
pub mod Parts
pub mod Unread
pub mod Lettered
pub mod Bound
pub mod Whole
pub mod Examples
mod Nothing
mod Remaining
mod Leading
mod Growing
mod Late
mod Lettering
mod Settling
mod Stepping
mod Visiting
mod HandedOn
mod Short
