-- Laws.
pub mod TurnCases
pub mod Looking
pub mod Slices
pub mod Serving
pub mod Turning
