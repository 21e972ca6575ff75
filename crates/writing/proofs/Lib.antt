-- Laws of texts written one after the other, then what the proofs of the functions cite.
pub mod Texts
pub mod Digits
pub mod Decimals
pub mod Signs
pub mod Hexadecimals
pub mod Points
pub mod Groups
