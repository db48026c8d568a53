pub mod Sights
pub mod Plans
pub mod Takes
pub mod Brings
pub mod OnWay
pub mod Carries
pub mod Claims
