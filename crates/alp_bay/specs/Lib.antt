pub mod Bays
pub mod Refusals
pub mod MemBays
pub mod VolumeFiles
pub mod HostDisks
pub mod HostBays
