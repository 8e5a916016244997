-- An object judged by itself and by the one that it names; its words as parts of a head.
pub mod Judged
pub mod Parts
