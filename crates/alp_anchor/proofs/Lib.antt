pub mod Anchors
pub mod Choices
pub mod Gates
