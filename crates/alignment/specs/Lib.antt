-- Alignment: multiples, the lowest of them from a number on, and the smallest pages whose highest is a space's alignment.
pub mod Multiples
pub mod Pages
pub mod Highest
