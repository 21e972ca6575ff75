-- What the contracts cite.
pub mod Part
pub mod Calls
