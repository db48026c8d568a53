pub mod ChangeLemmas
pub mod RoomLemmas
pub mod TakeLemmas
