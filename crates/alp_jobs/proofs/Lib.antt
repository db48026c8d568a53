pub mod AskedLemmas
pub mod QueueLemmas
pub mod RestLemmas
pub mod TickLemmas
pub mod LineLemmas
pub mod PatienceLemmas
