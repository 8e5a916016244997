-- A reason in five words.
pub mod Words
