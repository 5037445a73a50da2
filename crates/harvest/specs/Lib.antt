pub mod Ranks
pub mod Refineries
pub mod Steps
