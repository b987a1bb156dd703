-- Laws of these lines. Assumes nothing.
pub mod LabelNoteFaults
pub mod LabelNoteStored
pub mod NoteFaults
pub mod NoteStored
