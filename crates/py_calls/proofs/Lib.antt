mod Modes
pub mod Planning
