pub mod InMemory
pub mod Replies
pub mod Moving
pub mod BytesIO
pub mod Lending
pub mod LendingOut
pub mod Resizing
pub mod StringIO
