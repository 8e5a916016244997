-- L1: what the tool tells.
pub mod Names
pub mod First
pub mod Numbers
pub mod Door
pub mod Lowest
pub mod Says
