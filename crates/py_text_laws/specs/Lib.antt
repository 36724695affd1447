pub mod Written
pub mod Back
