pub mod MessageLemmas
mod PlaceLemmas
mod WalkLemmas
pub mod TableLemmas
