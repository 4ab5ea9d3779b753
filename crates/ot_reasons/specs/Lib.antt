pub mod Places
pub mod Faults
pub mod Satisfied
pub mod Namings
pub mod Words
pub mod PlanFaults
pub mod PlanWords
pub mod Ignored
