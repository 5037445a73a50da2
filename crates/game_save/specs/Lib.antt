pub mod Fault
pub mod Fields
pub mod Fits
pub mod Crew
pub mod ActorReading
pub mod WorldReading
pub mod SaveBytes
pub mod ReadSave
