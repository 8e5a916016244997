-- Laws of the head of a table as numbers: decoding and encoding undo each other. The definitions stand in rules_table.
pub mod Laws
