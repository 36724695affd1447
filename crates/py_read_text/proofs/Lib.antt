mod Lines
mod Enough
mod OneLine
mod Following
mod Knowing
mod Spots
pub mod Telling
pub mod Steps
mod Fetching
mod Holding
mod Answering
pub mod Results
mod Ahead
mod Gathering
mod Chunks
mod Stopping
mod Ranges
mod Beginning
pub mod Placing
pub mod Preparing
mod Changing
pub mod Owing
mod Laying
pub mod Fronts
pub mod Calling
pub mod Living
mod Going
pub mod Landings
mod Ends
mod Feeding
mod Putting
mod Inside
