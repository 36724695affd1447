pub mod Keeping
pub mod ReadBack
pub mod SoughtBack
pub mod Unasked
pub mod BroughtBack
