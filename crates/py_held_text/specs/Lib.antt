pub mod Held
pub mod Decodes
pub mod Bases
pub mod Finding
pub mod Known
pub mod Plain
pub mod LineSearch
