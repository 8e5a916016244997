-- What the checks of an accepted MAP, COPY or UNMAP have shown: the mapping made keeps the rules of a mapping, it lies where the rules say, 28 is answered exactly where there is no candidate, and UNMAP removes what it tells.
pub mod Passed
pub mod Made
pub mod Landing
pub mod Nowhere
pub mod Removed
pub mod Accepted
pub mod Lowest
pub mod Unmapped
