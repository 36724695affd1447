pub mod Cutting
pub mod Equality
pub mod Laying
pub mod Settling
mod Text
