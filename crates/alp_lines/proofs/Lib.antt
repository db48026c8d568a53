pub mod OperandLemmas
pub mod FormLemmas
mod HexLemmas
mod LineFacts
