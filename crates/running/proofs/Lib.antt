-- Laws that the proofs of the functions, and callers, cite.
pub mod Rows
pub mod Updates
pub mod States
pub mod Loop
pub mod Instances
