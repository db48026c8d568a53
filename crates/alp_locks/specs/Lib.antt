pub mod Tables
pub mod Asks
pub mod Wanted
pub mod Releases
pub mod Sound
pub mod Laws
