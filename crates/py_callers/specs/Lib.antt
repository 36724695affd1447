pub mod Copying
pub mod Decoding
pub mod FirstLine
pub mod Lending
pub mod Marking
