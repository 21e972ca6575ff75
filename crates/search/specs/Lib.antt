-- What the contracts cite.
pub mod Kept
pub mod View
pub mod Call
