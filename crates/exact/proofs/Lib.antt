-- Laws of the sum after some rows.
pub mod Summed
