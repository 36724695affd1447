pub mod Engine
pub mod Passing
pub mod Reading
pub mod Random
pub mod RandomWriting
pub mod Ahead
