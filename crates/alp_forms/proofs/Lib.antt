pub mod VariantLaws
pub mod ReasonLaws
pub mod RefusalLaw
