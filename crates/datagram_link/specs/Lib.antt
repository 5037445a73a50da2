pub mod Grams
pub mod Reading
pub mod Window
pub mod Sender
pub mod Receiver
pub mod PostState
pub mod PlannedPost
pub mod Turning
