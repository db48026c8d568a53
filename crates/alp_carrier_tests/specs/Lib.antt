pub mod Records
pub mod Depots
