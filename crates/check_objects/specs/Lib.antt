-- Good objects as the code checks them, the pages of all spaces, and what one pass over the records tells.
pub mod Pages
pub mod Passed
