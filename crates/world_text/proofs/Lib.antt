mod ActorTellingLemmas
mod FieldLemmas
pub mod TellingLemmas
mod WorldLemmas
pub mod PrintingLemmas
