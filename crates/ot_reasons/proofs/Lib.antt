pub mod Each
pub mod Exact
pub mod PlanExact
pub mod PlanUnmet
pub mod Standing
pub mod Unmet
