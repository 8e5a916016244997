-- The check of an index: what it asks of the records first, and what it tells.
pub mod Placed
pub mod Listed
