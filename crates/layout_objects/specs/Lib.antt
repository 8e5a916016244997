-- Laws of a head's words.
pub mod Slots
pub mod Writing
