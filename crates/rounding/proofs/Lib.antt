-- The laws of binary64: the value view, rounding, a theorem for each operation, then what follows from them.
mod Scaled
mod Value
mod Rounding
mod Negation
mod Addition
mod Subtraction
mod Integers
mod Conversion
mod Multiplication
mod Symmetry
mod Halves
mod RoundAway
mod Term
mod NonNegative
mod PowerBounds
mod Widening
mod Tests
mod Equality
mod Multiples
-- What the proofs of the functions cite.
mod ExactIntegers
mod Doubling
mod Saturation
mod Comparison
mod Zeros
mod Constants
mod Guess
mod Total
-- What other crates may use.
pub mod Interface
