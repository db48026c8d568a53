pub mod Order
pub mod Rises
pub mod Trees
pub mod Conversions
pub mod Reach
