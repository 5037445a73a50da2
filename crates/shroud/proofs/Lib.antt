mod DiscLemmas
mod PlaceLemmas
mod ChangeLemmas
mod RowLemmas
mod TallyLemmas
mod ShownLemmas
pub mod GridsLemmas
pub mod LawsLemmas
