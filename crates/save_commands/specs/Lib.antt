pub mod Continuing
pub mod Refusals
pub mod Saves
