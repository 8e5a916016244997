-- What stands beside the table (L9): the index of its mapping records.
pub mod Index
pub mod Board
