pub mod Written
pub mod Working
pub mod Handing
pub mod Sizes
pub mod Seeking
