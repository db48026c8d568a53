mod Fronts
mod BringLemmas
pub mod PlanLemmas
pub mod TakeLemmas
mod TurnLemmas
mod WayLemmas
mod ClaimLemmas
