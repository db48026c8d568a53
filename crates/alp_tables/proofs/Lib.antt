pub mod BitsLaws
pub mod FreeLaws
pub mod Tables
