pub mod Histories
mod Rules
mod Ends
mod Seats
pub mod Passes
mod Fours
