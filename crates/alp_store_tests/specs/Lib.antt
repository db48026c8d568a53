pub mod FileChanges
