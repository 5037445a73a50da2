pub mod OrderLemmas
pub mod RuleLemmas
pub mod EndLemmas
