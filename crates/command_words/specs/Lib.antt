pub mod Follows
pub mod Commands
pub mod RequestPlain
pub mod Player
pub mod Reading
pub mod CommandNames
pub mod HostOptions
