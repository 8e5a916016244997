pub mod Judging
pub mod Zeroing
