-- Laws of a good table: of its records, of what a space is made of, of the charge, and what stays true when records change.
pub mod Checked
pub mod Sound
pub mod Facts
pub mod Replaced
pub mod Moved
pub mod Cleared
pub mod Charged
pub mod Joined
pub mod Fresh
pub mod Homes
pub mod Aligned
pub mod Fitting
pub mod Paged
