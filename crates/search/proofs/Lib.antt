-- Laws that the proofs of the functions, and callers, cite.
pub mod NearestLeaf
pub mod ListLeaf
pub mod Turns
pub mod Levels
pub mod States
pub mod Loop
pub mod Map
pub mod Instances
pub mod Outcomes
