pub mod Ranking
pub mod Outwards
pub mod NearestLaw
pub mod RefineryLaw
pub mod Rows
pub mod StepCases
