-- What fresh leaves.
pub mod Endings
