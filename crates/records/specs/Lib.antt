-- The mapping records as they are checked: each by itself, and by their backings.
pub mod Alone
pub mod Charging
