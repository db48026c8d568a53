pub mod Changes
pub mod Calls
pub mod Endings
pub mod Replies
pub mod Frames
