pub mod ChangeLaw
pub mod CallLaw
pub mod EndedLaw
pub mod ReplyLaw
pub mod FrameLaws
pub mod SendableLaws
