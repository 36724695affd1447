pub mod Telling
pub mod ReadingOn
pub mod ModeLetters
pub mod Lay
