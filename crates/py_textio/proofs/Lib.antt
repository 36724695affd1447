pub mod Faults
mod Refusing
mod Changing
mod Telling
mod Settling
mod Giving
mod Working
mod Over
mod Stopping
mod Nothing
mod Writing
mod Ends
pub mod Sizes
pub mod Smooth
mod Ended
mod Rooms
mod Detaching
pub mod Detached
mod Seeking
