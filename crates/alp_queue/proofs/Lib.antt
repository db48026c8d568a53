pub mod OrderLemmas
pub mod LineLemmas
pub mod SortedLemmas
pub mod FirstLemmas
pub mod ReachLemmas
