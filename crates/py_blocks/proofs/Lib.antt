pub mod Appended
pub mod Beginning
pub mod Blocks
pub mod Counted
pub mod OwnAscii
pub mod OwnUnits
pub mod Running
pub mod Written
