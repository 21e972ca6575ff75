-- What the contracts cite.
pub mod Parts
pub mod Levels
pub mod Walks
