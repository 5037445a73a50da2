pub mod CrowdLemmas
pub mod EachLemmas
pub mod OutcomeLemmas
pub mod RowLemmas
pub mod StartLemmas
pub mod ValidLemmas
