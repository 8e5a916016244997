-- What is blocked in a space, part by part.
pub mod Parts
