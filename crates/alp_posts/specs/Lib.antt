pub mod Messages
pub mod Places
pub mod Finds
pub mod Post
pub mod Posts
