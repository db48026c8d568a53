pub mod Finds
pub mod Limits
pub mod Looks
pub mod Opened
pub mod Parts
pub mod Regained
pub mod ServerNotes
pub mod Sights
