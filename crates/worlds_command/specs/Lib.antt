pub mod Chosen
pub mod SetupLines
pub mod Worlds
