mod NumberOrder
pub mod BytesOrder
mod StableSorts
pub mod RiseLemmas
pub mod BackLemmas
pub mod NotedLemmas
pub mod NoteViews
pub mod NoteSizes
pub mod NoteRoom
