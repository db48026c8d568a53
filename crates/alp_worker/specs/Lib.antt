pub mod Again
pub mod Joins
pub mod Lives
pub mod Regained
pub mod Rooms
pub mod Walks
