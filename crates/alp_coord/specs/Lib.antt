pub mod Members
pub mod Courses
pub mod Begun
pub mod Likeness
pub mod Coordinators
pub mod Ticks
