pub mod Buffers
pub mod Pools
pub mod Calls
