-- Laws that the proofs of the functions, and callers, cite.
pub mod Rising
pub mod Tables
pub mod Reading
pub mod Backwards
pub mod Stored
pub mod Written
