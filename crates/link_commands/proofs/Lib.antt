pub mod LinkLemmas
pub mod PlayLemmas
