-- The bench program (document 01, "The bench program"): when a plan is ready, and the lines of its commands.
pub mod Running
