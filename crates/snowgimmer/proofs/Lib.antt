-- Laws that the proofs of the functions cite.
pub mod Distances
pub mod DistanceAgrees
pub mod Slices
pub mod ToldAs
pub mod EntriesInTurn
pub mod RatioNumbers
