-- The table (document 01, "Table"): its numbers, flags, records, a space, the charge, what bind and ALLOW_IOVAS refuse, when a table is good, what a call leaves untouched, the records as numbers in memory.
pub mod Limits
pub mod Flags
pub mod Records
pub mod Spaces
pub mod Charge
pub mod Fits
pub mod Good
pub mod Untouched
pub mod Layout
pub mod Words
