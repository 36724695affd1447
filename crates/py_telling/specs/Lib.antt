pub mod Seen
pub mod Spots
pub mod Plain
pub mod Walks
pub mod InHand
pub mod Bases
pub mod ToldView
pub mod Restoring
