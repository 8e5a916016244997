-- The index of records that are given by value (L9).
pub mod Making
