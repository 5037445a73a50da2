mod ContinueLemmas
mod GameLemmas
mod SaveLemmas
