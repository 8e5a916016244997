-- Numbers as the commands carry them: little-endian fields of a list of bytes.
pub mod Fields
