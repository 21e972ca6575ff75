-- Laws that several proofs cite.
pub mod Centers
pub mod Totals
