-- Attach's checks as the code asks them. What the host calls decide stands in rules_calls.
pub mod Attached
