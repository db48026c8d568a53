pub mod BatchLaws
pub mod Lengths
pub mod Values
