pub mod Part
pub mod Word
pub mod Rule
pub mod Passes
pub mod Steps
pub mod Calls
