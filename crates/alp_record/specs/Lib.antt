pub mod Record
pub mod Adding
pub mod Read
