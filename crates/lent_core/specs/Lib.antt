-- What a call leaves that has the head as words, the words of the mapping records and the index.
pub mod Serving
pub mod Endings
pub mod Follows
