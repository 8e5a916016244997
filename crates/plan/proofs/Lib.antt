pub mod Judging
pub mod Lining
