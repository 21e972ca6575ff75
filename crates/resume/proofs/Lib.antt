-- Laws that the proofs of the functions, and callers, cite.
pub mod Levels
pub mod Residuals
pub mod Storing
pub mod Stepping
pub mod Turning
pub mod Given
pub mod Going
pub mod Beginning
