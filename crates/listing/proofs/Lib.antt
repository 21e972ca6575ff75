-- Laws that the proofs of the functions cite.
pub mod WalkEnds
pub mod Writing
pub mod Coordinates
pub mod Found
pub mod Ordering
pub mod Endings
