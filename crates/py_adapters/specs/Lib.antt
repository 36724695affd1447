pub mod Writing
pub mod Formatting
pub mod Lines
pub mod Items
pub mod LineSteps
pub mod Known
pub mod Answers
