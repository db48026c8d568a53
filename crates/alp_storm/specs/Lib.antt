pub mod Logs
pub mod Turns
pub mod Rings
pub mod Works
pub mod Errands
pub mod Storms
pub mod Lists
pub mod Causes
