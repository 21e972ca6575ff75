-- What the contracts cite.
pub mod Sizes
pub mod Texts
pub mod Room
pub mod Answer
