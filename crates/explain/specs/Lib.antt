-- Why a MAP or a COPY is refused, on any table.
pub mod Answered
