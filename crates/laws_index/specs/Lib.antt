-- L9 for a table with its index beside it, by value: what the index lists after a call, sequences, isolation.
pub mod Kept
pub mod History
pub mod Alike
pub mod Unlisted
