-- What the contracts cite.
pub mod Residuals
pub mod View
