pub mod Board
pub mod Alarm
pub mod Server
pub mod Tick
pub mod Served
