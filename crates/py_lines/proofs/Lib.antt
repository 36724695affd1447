pub mod Lines
pub mod Asking
mod Collectors
