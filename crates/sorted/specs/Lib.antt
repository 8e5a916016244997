-- Lists in order. It knows nothing of mappings.
pub mod Sorted
