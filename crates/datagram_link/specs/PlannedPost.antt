-- A post in memory: what it holds, and which of its calls are to fail.
use Rattle.std.specs.Prelude.{ℕ, ◌==◌, Bool, List, Some}
use Rattle.std.specs.List.{list_any}
use Rattle.datagram_link.specs.PostState.{Held, PostState}

-- What the post holds, how many calls there were, the numbers of those that are to fail, and how
-- often one failed.
pub record PlannedPost : Type 0 where
  pub held : Held
  pub calls : ℕ
  pub failing : List ℕ
  pub faults : ℕ

-- What it holds is observable.
abbrev pub post_state : PlannedPost → PostState
post_state post = record { held = Some post.held; faults = post.faults }

-- The next call is to fail.
abbrev pub is_planned : PlannedPost → Bool
is_planned post = list_any (λ call. call == post.calls) post.failing
