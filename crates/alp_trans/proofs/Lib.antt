pub mod FileSets
pub mod ChangeLemmas
pub mod AheadLemmas
