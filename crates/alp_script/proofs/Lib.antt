pub mod ScriptLemmas
pub mod ReadingLemmas
pub mod OrderLemmas
pub mod VolumeLemmas
pub mod AcceptedLemmas
mod ScriptFacts
