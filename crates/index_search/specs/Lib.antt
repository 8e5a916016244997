-- The index in code (L9): what a search asks of it, and what it finds.
pub mod Indexed
pub mod Removed
pub mod Followable
pub mod Spans
