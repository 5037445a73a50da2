-- A match, as far as its worlds go: where they begin, how they are stepped, what is asked of them,
-- and its two numbers.
use Rattle.std.specs.Prelude.{ℕ, List}
use Rattle.game_orders.specs.declared.entry.Entry.{Entry}
use Rattle.frame_core.specs.declared.summary.Summary.{Summary}
use Rattle.frame_core.specs.Column.{Column}
use Rattle.frame_core.specs.World.{world_at}

-- The opening world, its step by a frame, its hash and its summary; the number of clients, and the
-- lag in frames.
pub record Match (W : Type 0) : Type 0 where
  pub start : W
  pub after : W → List Entry → W
  pub hash : W → ℕ
  pub summary : W → Summary
  pub clients : ℕ
  pub lag : ℕ

-- The agreed world of the match after n frames.
abbrev pub agreed_world : {W : Type 0} → Match W → List Column → ℕ → W
agreed_world of_match columns n = world_at of_match.after of_match.start columns n

-- The hash of that world.
abbrev pub agreed_hash : {W : Type 0} → Match W → List Column → ℕ → ℕ
agreed_hash of_match columns n = of_match.hash (agreed_world of_match columns n)
