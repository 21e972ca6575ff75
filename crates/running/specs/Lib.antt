-- What the contracts cite.
pub mod Centers
pub mod Call
pub mod Search
