pub mod Alone
pub mod Answering
pub mod Copying
pub mod Leaving
pub mod Sessions
pub mod Starving
