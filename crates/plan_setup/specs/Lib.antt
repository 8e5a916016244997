-- How a plan is set up.
pub mod Setting
