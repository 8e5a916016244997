-- Why a MAP or a COPY is refused.
pub mod Numbered
