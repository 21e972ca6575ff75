-- What the contracts cite.
pub mod Reports
pub mod Entries
pub mod Told
