-- What a call decides on a table with its index.
pub mod Answers
pub mod Refused
pub mod Deciding
