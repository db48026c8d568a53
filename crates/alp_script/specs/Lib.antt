pub mod Known
pub mod Order
pub mod Script
pub mod Progress
pub mod Reading
pub mod Volumes
pub mod Accepted
