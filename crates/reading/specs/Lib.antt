-- What the contracts speak of.
pub mod View
pub mod Parts
