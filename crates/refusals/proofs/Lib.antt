-- Laws about the refusals.
pub mod FreeNumber
pub mod Early
