-- Demand 3 of a plan: the table that its run leaves is that of a sequence of calls on a fresh table.
pub mod Sequence
