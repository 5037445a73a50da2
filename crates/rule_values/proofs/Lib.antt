pub mod PartsLemmas
pub mod NameListLemmas
