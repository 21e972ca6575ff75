-- What the contracts cite.
pub mod View
pub mod Ready
