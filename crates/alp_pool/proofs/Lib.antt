pub mod Lookups
pub mod Logged
pub mod Renewing
