pub mod Products
pub mod Indexing
pub mod Places
pub mod Furthest
pub mod Rows
pub mod Gathering
pub mod Simple
pub mod Written
