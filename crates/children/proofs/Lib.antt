-- Laws that the proofs of the functions, and callers, cite.
pub mod Terms
pub mod Outcomes
pub mod Steps
