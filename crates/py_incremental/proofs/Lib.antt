pub mod Cuts
pub mod Feeding
pub mod Moving
pub mod Pieces
pub mod Stepping
