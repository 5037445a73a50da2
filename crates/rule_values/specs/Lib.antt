pub mod Cells
pub mod Distances
pub mod NameList
pub mod Parts
