pub mod ReadParts
pub mod Lookups
