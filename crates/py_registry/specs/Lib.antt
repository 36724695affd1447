pub mod Entries
pub mod Names
pub mod BuiltIn
pub mod Slots
pub mod Coding
pub mod Machine
pub mod Answers
pub mod Steps
