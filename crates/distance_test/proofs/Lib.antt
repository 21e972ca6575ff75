-- The law that the proofs of `two` and `three` cite.
mod Square
