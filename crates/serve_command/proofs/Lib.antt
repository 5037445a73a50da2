pub mod ClosedLemmas
pub mod RecordsLemmas
pub mod ServeLemmas
