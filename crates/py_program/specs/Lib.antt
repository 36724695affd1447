pub mod Status
pub mod Outside
pub mod Outcome
pub mod Meaning
