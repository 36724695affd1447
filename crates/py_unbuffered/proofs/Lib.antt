pub mod Reading
pub mod Begun
pub mod Putting
