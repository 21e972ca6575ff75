-- What the contract cites.
pub mod View
