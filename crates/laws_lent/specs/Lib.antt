-- Demand 3 for a table in the caller's memory; that a refusal leaves that memory as it was, that a bad table or another index is 117, and what the index lists.
pub mod Applied
pub mod Lending
pub mod Refused
pub mod Listed
