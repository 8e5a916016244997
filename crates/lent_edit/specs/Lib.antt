-- What an edit writes.
pub mod Edits
