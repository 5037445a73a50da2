mod ChosenLemmas
mod LineLemmas
mod WorldsLemmas
