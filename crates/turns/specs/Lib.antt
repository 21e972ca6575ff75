-- What the contracts cite.
pub mod Names
pub mod Turns
