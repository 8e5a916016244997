-- What is not reserved: its definition, what the search for it computes, how it is written, and worked examples.
pub mod Free
pub mod From
pub mod Scan
pub mod Written
pub mod Worked
