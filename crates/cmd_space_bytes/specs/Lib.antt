-- What the code of IOVA_RANGES promises past the gate. The four commands that place no mapping stand, whole, in rules_calls.
pub mod Replied
