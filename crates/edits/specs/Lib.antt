-- The table after each kind of edit, and laws: what each keeps of a good table and leaves of other spaces, and a new object in the lowest free record.
pub mod Parts
pub mod Kept
pub mod Untouched
pub mod Mapped
pub mod Settled
pub mod Numbers
pub mod Replies
pub mod Gating
