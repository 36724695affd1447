pub mod Incremental
pub mod Pieces
