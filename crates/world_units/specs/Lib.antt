pub mod Angles
pub mod Cells
pub mod Directions
pub mod Turning
pub mod CellEquality
