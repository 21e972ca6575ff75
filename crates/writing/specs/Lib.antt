-- What the contracts speak of.
pub mod Sizes
pub mod Written
pub mod Appended
pub mod Digits
