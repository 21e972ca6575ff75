-- Laws that several proofs cite.
pub mod Answers
pub mod Inputs
pub mod Jobs
pub mod Lines
pub mod Lists
