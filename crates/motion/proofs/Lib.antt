pub mod StepCases
pub mod ChangeLemmas
