-- A net as contracts see it, and what a call that gives a link or takes one back did.
use Rattle.std.specs.Prelude.{◌≡◌, ℕ, ◌+◌, ◌-◌, ◌^◌, ◌≤◌, min, List, [], ◌∷◌, ◌++◌, drop, slice_get}
use Rattle.std.specs.Prelude.{slice_set, Option, None, Some, Result, IfOk, OnOk, OnErr, IfSome}
use Rattle.std.specs.Option.{option_map}
use Rattle.base.specs.Cause.{Increased}
use Rattle.game_io.specs.SourceState.{SourceState}
use Rattle.game_io.specs.SinkState.{SinkState}

-- A link as it was taken back: the bytes that its source then had left and those that were written
-- to its sink, where they are observable, and how often both have failed, up to the greatest
-- 64-bit number.
pub record TakenBack : Type 0 where
  pub left : Option (List ℕ)
  pub written : Option (List ℕ)
  pub faults : ℕ

abbrev pub taken_back : SourceState → SinkState → TakenBack
taken_back input output =
    record {
      left = input.left;
      written = output.written;
      faults = min (input.faults + output.faults) (2 ^ 64 - 1);
    }

-- The bytes of each link that is still to come, where they are observable; each link that was given
-- so far, and what it was as it was taken back, if it was; and how often the net has failed, up to
-- the greatest 64-bit number.
pub record NetState : Type 0 where
  pub coming : Option (List (List ℕ))
  pub given : List (Option TakenBack)
  pub faults : ℕ

-- How often the halves of the link have failed, 0 before it is taken back.
abbrev pub faults_taken_back : Option (Option TakenBack) → ℕ
faults_taken_back None = 0
faults_taken_back (Some None) = 0
faults_taken_back (Some (Some link)) = link.faults

abbrev pub link_faults : List (Option TakenBack) → ℕ → ℕ
link_faults given i = faults_taken_back (slice_get given i)

-- The bytes of the next link. After the last one comes a link without bytes.
abbrev pub next_bytes : List (List ℕ) → List ℕ
next_bytes [] = []
next_bytes (bytes ∷ rest) = bytes

-- A call that gives no link.
pub record Listens {T E : Type 0} (old new : NetState) (result : Result T E) : Type 0 where
  pub coming : new.coming ≡ old.coming
  pub given : new.given ≡ old.given
  pub later : old.faults ≤ new.faults
  pub failed : OnErr result (Increased old.faults new.faults)

-- A link that is given now, by what is observable of those to come: no half has failed yet, and
-- nothing was written.
pub record IsNewLink
    (coming : Option (List (List ℕ))) (input : SourceState) (output : SinkState) : Type 0 where
  pub bytes : IfSome coming (λ links. input.left ≡ Some (next_bytes links))
  pub no_input_faults : input.faults ≡ 0
  pub unwritten : IfSome output.written (λ written. written ≡ [])
  pub no_output_faults : output.faults ≡ 0

-- A call gives the next link. `input_of` and `output_of` are the states of its halves. A failed
-- call gives none.
pub record GivesLink {I O E : Type 0}
    (input_of : I → SourceState) (output_of : O → SinkState) (old new : NetState)
    (result : Result (I × O) E) : Type 0 where
  pub link : IfOk result (λ link. IsNewLink old.coming (input_of link.0) (output_of link.1))
  pub coming : OnOk result (new.coming ≡ option_map (drop 1) old.coming)
  pub given : OnOk result (new.given ≡ old.given ++ None ∷ [])
  pub still_coming : OnErr result (new.coming ≡ old.coming)
  pub none_given : OnErr result (new.given ≡ old.given)
  pub later : old.faults ≤ new.faults
  pub failed : OnErr result (Increased old.faults new.faults)

-- A call takes back the link of this number, whose halves are in these states.
pub record TakesBack
    (number : ℕ) (input : SourceState) (output : SinkState) (old new : NetState) : Type 0 where
  pub given : new.given ≡ slice_set old.given number (Some (taken_back input output))
  pub coming : new.coming ≡ old.coming
  pub later : old.faults ≤ new.faults
