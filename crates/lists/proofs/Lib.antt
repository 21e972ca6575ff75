-- Laws about lists.
pub mod Each
pub mod Permutations
pub mod Places
pub mod Segments
pub mod Replaced
pub mod Parts
pub mod Copies
pub mod Filling
pub mod Repeats
pub mod Over
pub mod Tuples
pub mod Sums
