pub mod Chosen
pub mod Entries
pub mod Named
pub mod Registering
pub mod Spelled
pub mod Steps
