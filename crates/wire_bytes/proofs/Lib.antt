pub mod FieldLemmas
pub mod ReadLemmas
pub mod WriteLemmas
