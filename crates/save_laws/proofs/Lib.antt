pub mod SpelledBodyLemmas
pub mod SpelledLemmas
pub mod SpelledWorldLemmas
