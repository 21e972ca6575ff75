-- What the contracts cite.
pub mod Triangle
