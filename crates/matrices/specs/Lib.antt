-- What the contracts cite.
pub mod Shapes
pub mod Mapped
