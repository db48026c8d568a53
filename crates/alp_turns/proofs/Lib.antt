pub mod WayLemmas
pub mod RiseLemmas
pub mod RequestLemmas
pub mod WalkLemmas
pub mod QueueLemmas
pub mod MoveLemmas
pub mod StandLemmas
pub mod AskedLemmas
