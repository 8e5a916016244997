-- The records of a table in the caller's memory.
pub mod Records
pub mod Loading
