pub mod OrderBytesLemmas
pub mod OrdersLemmas
