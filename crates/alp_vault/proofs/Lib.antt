pub mod CountLemmas
pub mod PutLemmas
pub mod SweepLemmas
pub mod OwnerLemmas
pub mod StageLemmas
pub mod Samples
pub mod VolumeLemmas
