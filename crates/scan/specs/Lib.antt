-- What MAP and COPY ask of the mapping records for a new one.
pub mod Surveyed
