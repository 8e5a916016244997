-- Which addresses the ranges of IOVA_RANGES hold. What the commands on spaces decide stands in rules_calls.
pub mod Written
