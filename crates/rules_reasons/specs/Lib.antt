-- Why a MAP or a COPY is refused (L1).
pub mod Reasons
pub mod Explain
