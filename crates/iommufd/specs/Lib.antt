-- What deciding a command leaves, and that its answer is that edit, applied. The door itself stands in rules_calls.
pub mod Deciding
