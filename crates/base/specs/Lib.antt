pub mod Cause
pub mod Written
pub mod Lines
pub mod Numbers
pub mod Steps
