pub mod Sends
pub mod BerthStates
pub mod Berths
