pub mod Variants
pub mod Reasons
pub mod Refusals
