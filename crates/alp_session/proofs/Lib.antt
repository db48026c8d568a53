pub mod MapLemmas
pub mod WaitLemmas
pub mod CrowdLemmas
pub mod CallLemmas
pub mod FrameLemmas
pub mod AheadLemmas
pub mod OursLemmas
