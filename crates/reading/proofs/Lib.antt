-- Laws that several proofs cite.
pub mod Numbers
pub mod Items
pub mod Layouts
pub mod Arrays
pub mod Rows
