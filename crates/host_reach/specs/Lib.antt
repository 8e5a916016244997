-- The mapping that reach looks for, as the code has it. What the host calls decide stands in rules_calls.
pub mod Held
