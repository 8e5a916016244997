-- Ranges of addresses and pages of memory: what document 01 calls intervals, candidates' ends and the charge of a backing.
pub mod Ranges
pub mod Pages
