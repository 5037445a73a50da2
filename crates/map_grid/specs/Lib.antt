pub mod Crowd
pub mod Each
pub mod Fault
pub mod Fields
pub mod MapOf
pub mod Rows
pub mod Starts
