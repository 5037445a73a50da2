pub mod ViewText
pub mod Views
pub mod Watching
