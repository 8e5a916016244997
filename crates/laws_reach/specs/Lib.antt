-- Reach in plain terms: what each answer means, for a table by value and for one in the caller's memory.
pub mod Plain
pub mod Reach
