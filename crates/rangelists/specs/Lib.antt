-- Lists of ranges: a device's reserved ranges and a space's allow list.
pub mod Listed
pub mod Held
