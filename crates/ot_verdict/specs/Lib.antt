pub mod Pending
pub mod Ending
pub mod Laws
pub mod First
pub mod Receiving
pub mod Verdicts
