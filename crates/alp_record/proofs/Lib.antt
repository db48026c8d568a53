pub mod Headers
pub mod Bodies
pub mod Stages
pub mod Adds
pub mod Readings
pub mod Causes
