pub mod RowLemmas
pub mod Searches
