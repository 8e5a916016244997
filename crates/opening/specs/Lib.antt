-- Laws of opening, of flags and of signed results. The definitions stand in rules_calls, those of flags in rules_table.
pub mod Opened
pub mod Bits
pub mod Signed
