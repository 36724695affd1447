pub mod Texts
pub mod Runs
pub mod Blocks
pub mod Writing
pub mod Fronts
