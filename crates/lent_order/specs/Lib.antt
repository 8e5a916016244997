-- What the words of a host call ask, and what it tells in them.
pub mod Orders
