pub mod Reached
pub mod Known
pub mod Drafts
pub mod Undone
pub mod Parts
pub mod Puts
