pub mod ReadCauses
pub mod ServeText
pub mod Serves
pub mod Records
