pub mod Replies
pub mod Reports
pub mod Sections
