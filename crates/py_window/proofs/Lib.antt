mod Held
pub mod Collecting
pub mod Overlaying
pub mod Owning
