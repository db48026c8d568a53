pub mod ListLemmas
pub mod LiveLemmas
pub mod WalkLemmas
pub mod MoveLemmas
mod DrawLemmas
mod RegainLemmas
mod RoomLemmas
mod OrderLemmas
pub mod LeastLemmas
