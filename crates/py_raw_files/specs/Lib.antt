pub mod Handle
pub mod FileRaw
pub mod ReadRaw
pub mod WriteRaw
pub mod FileOpener
