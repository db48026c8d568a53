pub mod Batch
pub mod Values
