pub mod Cuts
pub mod MemRaw
pub mod Entries
pub mod Plans
pub mod MemOpener
