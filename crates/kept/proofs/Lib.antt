-- Laws.
pub mod Checks
pub mod Ends
pub mod Walks
pub mod PickingUp
pub mod Naming
pub mod Blocks
pub mod Calls
