-- What the contracts cite.
pub mod Integers
pub mod Doubles
pub mod Ordering
pub mod Kinds
pub mod Rounded
