pub mod Binary
pub mod Kinds
pub mod Space
