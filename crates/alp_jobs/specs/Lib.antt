pub mod Deeds
pub mod Does
pub mod States
pub mod Jobs
pub mod Ticks
pub mod Lines
pub mod Patience
