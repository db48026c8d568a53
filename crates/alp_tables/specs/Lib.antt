pub mod Bits
pub mod Costs
pub mod Tables
