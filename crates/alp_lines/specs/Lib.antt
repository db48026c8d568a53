pub mod FileWords
pub mod Hex
pub mod Operands
pub mod ClientLines
pub mod EventLines
pub mod Grammar
pub mod Named
pub mod Forms
