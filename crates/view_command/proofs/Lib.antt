mod WatchingLemmas
pub mod ViewTextLemmas
