mod TextGone
pub mod TextKeeping
mod TextOpening
mod Parting
pub mod Reached
pub mod Detaching
mod Blaming
mod Losing
pub mod TextLeft
pub mod Steps
pub mod Ending
pub mod Resting
pub mod Runs
mod Reaching
pub mod Running
pub mod Closing
pub mod Gone
pub mod InRaw
pub mod Names
pub mod Joining
pub mod OpenedRaw
pub mod OpenedFile
pub mod IoOpening
pub mod Sizes
pub mod Back
pub mod ReadBack
