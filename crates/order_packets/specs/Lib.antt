pub mod Up
pub mod PacketBytes
pub mod PacketReading
pub mod First
pub mod Feed
pub mod UpEquality
