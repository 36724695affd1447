pub mod Written
pub mod EachWritten
pub mod WrittenCuts
pub mod Sizes
pub mod Settings
pub mod Coders
pub mod NewlinePieces
