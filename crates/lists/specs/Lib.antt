-- What crates share of lists.
pub mod All
pub mod Permutation
pub mod Places
pub mod Over
pub mod Sums
