-- Document 01: "A refusal writes nothing", IOVA_RANGES' 90 aside, for any table, good or not, and any bytes; and "A table is bad, and every call on it answers 117".
pub mod Edits
pub mod Silent
pub mod EveryCall
pub mod Calls
pub mod BadTable
