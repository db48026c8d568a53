pub mod Turns
pub mod Served
pub mod Closed
pub mod Carried
pub mod Storms
pub mod Threads
pub mod Stormed
