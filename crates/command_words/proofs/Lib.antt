pub mod OnCommands
pub mod LiteralLemmas
pub mod NumberLemmas
pub mod FoundValuesLemmas
pub mod PlainWordsLemmas
pub mod NamesLemmas
pub mod AcceptedLemmas
pub mod SecondWordLemmas
