pub mod Moments
pub mod Replays
pub mod RunLemmas
pub mod GateLemmas
