-- No mapping shares an address with a reserved range of its space.
pub mod Clear
