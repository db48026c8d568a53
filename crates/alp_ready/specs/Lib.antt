pub mod NoteOrder
pub mod NoteLooks
