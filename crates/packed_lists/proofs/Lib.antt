pub mod DigitLemmas
pub mod PackedLemmas
