pub mod Judging
pub mod Paging
pub mod Passing
pub mod Skipping
