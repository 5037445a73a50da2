-- What a run of events does: to the match as the record says, and to the sink as the report says.
use Rattle.std.specs.Prelude.{◌≡◌, ℕ, List, ◌++◌, Option, Result, OnOk, OnErr}
use Rattle.base.specs.Written.{WroteUpTo, WrotePrefix}
use Rattle.drill_words.specs.declared.event.Event.{Event}
use Rattle.frame_core.specs.Match.{Match}
use Rattle.drill.specs.Text.{outcome_lines}
use Rattle.drill.specs.Record.{after_events, outcomes}
use Rattle.drill.specs.RunningMatch.{RunState, progress_of, IsWhole, IsSound}

-- The text that is kept back and these lines after it are printed, but for what is kept back
-- then. `out` is what was written; `first` what was written at some earlier time and `whole` a
-- text that the sink is to get from then on.
abbrev pub PrintsLines : Option (List ℕ) → List ℕ → Option (List ℕ) → List ℕ → List ℕ → Type 0
PrintsLines out text out' text' lines =
    (first : Option (List ℕ)) (rest whole : List ℕ) →
    WroteUpTo first out (text ++ (lines ++ rest)) whole → WroteUpTo first out' (text' ++ rest) whole

-- Only a prefix of them was written.
abbrev pub CutsLines : Option (List ℕ) → List ℕ → Option (List ℕ) → List ℕ → Type 0
CutsLines out text out' lines =
    (first : Option (List ℕ)) (rest whole : List ℕ) →
    WroteUpTo first out (text ++ (lines ++ rest)) whole → WrotePrefix first out' whole

-- These events run, and their lines are numbered from this number on: the match is left as the
-- record says, and the lines are printed.
pub record RunsEvents {W E : Type 0}
    (match_of : W → Match W) (number : ℕ) (events : List Event)
    (run : RunState W) (out : Option (List ℕ)) (text : List ℕ)
    (run' : RunState W) (out' : Option (List ℕ)) (text' : List ℕ) (result : Result (Unit {0}) E)
    : Type 0 where
  pub whole : OnOk result (IsWhole run')
  pub left :
      OnOk result
      ((start : W) → IsSound (match_of start) run →
      (progress_of run' ≡ after_events (match_of start) (progress_of run) events)
      × IsSound (match_of start) run')
  pub printed :
      OnOk result
      ((start : W) → IsSound (match_of start) run →
      PrintsLines out text out' text'
      (outcome_lines number (outcomes (match_of start) (progress_of run) events)))
  pub cut :
      OnErr result
      ((start : W) → IsSound (match_of start) run →
      CutsLines out text out'
      (outcome_lines number (outcomes (match_of start) (progress_of run) events)))

-- What holds of a run once some of its events ran and these are left.
pub record RanSoFar {W : Type 0}
    (match_of : W → Match W) (number : ℕ) (left : List Event)
    (run₀ : RunState W) (out₀ : Option (List ℕ)) (text₀ : List ℕ) (events : List Event)
    (run : RunState W) (out : Option (List ℕ)) (text : List ℕ)
    : Type 0 where
  pub whole : IsWhole run
  pub sound : (start : W) → IsSound (match_of start) run₀ → IsSound (match_of start) run
  pub state :
      (start : W) → IsSound (match_of start) run₀ →
      after_events (match_of start) (progress_of run) left
      ≡ after_events (match_of start) (progress_of run₀) events
  pub written :
      (start : W) → IsSound (match_of start) run₀ →
      (first : Option (List ℕ)) (rest all : List ℕ) →
      WroteUpTo first out₀
      (text₀ ++ (outcome_lines 0 (outcomes (match_of start) (progress_of run₀) events) ++ rest)) all →
      WroteUpTo first out
      (text ++ (outcome_lines number (outcomes (match_of start) (progress_of run) left) ++ rest)) all
