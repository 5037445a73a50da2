pub mod Local
pub mod Bots
pub mod Passes
pub mod Feeding
pub mod Taken
