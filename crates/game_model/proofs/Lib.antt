pub mod TilesLemmas
pub mod OreLemmas
pub mod FoundLemmas
pub mod LivingLemmas
pub mod StartLemmas
