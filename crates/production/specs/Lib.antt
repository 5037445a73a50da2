pub mod Grounds
pub mod Exits
pub mod Steps
pub mod Orders
