pub mod Field
pub mod Read
pub mod Write
