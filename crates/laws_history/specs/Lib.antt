-- Demand 3: over every sequence of calls from a fresh table, the table and a ledger fed only by calls and answers agree, the table stays good and keeps to its limit. And what a release takes off the charge.
pub mod Rel
pub mod Source
pub mod Told
pub mod Done
pub mod Calm
pub mod Steps
pub mod Objects
pub mod History
pub mod Freed
