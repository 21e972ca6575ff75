-- Laws that several proofs cite.
pub mod Sequence
pub mod Entries
pub mod Positions
