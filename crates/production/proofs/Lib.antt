pub mod Changes
pub mod Exits
pub mod Steps
pub mod Living
pub mod OrderLemmas
