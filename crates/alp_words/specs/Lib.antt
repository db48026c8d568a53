pub mod Definition
pub mod Faults
pub mod Words
