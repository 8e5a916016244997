-- Why a place is refused.
pub mod Told
