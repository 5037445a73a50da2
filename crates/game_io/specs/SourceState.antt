-- A source as contracts see it, and what a call that takes from it did.
use Rattle.std.specs.Prelude.{◌≡◌, ℕ, ◌<◌, ◌≤◌, ◌↔◌, List, [], length, take, drop, Option, Result}
use Rattle.std.specs.Prelude.{IfOk, OnErr, IfSome}
use Rattle.std.specs.Option.{option_map}
use Rattle.base.specs.Cause.{Increased}

-- The bytes that are left, where they are observable, and how often it has failed, up to the
-- greatest 64-bit number.
pub record SourceState : Type 0 where
  pub left : Option (List ℕ)
  pub faults : ℕ

-- `into` is the place after the call. A failed call took nothing.
pub record TakesBytes {E : Type 0}
    (old new : SourceState) (into : List ℕ) (result : Result ℕ E) : Type 0 where
  pub bound : IfOk result (λ count. count ≤ length into)
  pub left : IfOk result (λ count. new.left ≡ option_map (drop count) old.left)
  pub moved : IfOk result (λ count. IfSome old.left (λ bytes. take count into ≡ take count bytes))
  pub ended :
      IfOk result
      (λ count. 0 < length into → IfSome old.left (λ bytes. (count ≡ 0) ↔ (bytes ≡ [])))
  pub unmoved : OnErr result (new.left ≡ old.left)
  pub later : old.faults ≤ new.faults
  pub failed : OnErr result (Increased old.faults new.faults)

-- `room` and `into` are the place before and after the call. After the bytes that were moved there
-- it is as it was, and after a failed call all of it is.
pub record FillsPlace {E : Type 0} (room into : List ℕ) (result : Result ℕ E) : Type 0 where
  pub after : IfOk result (λ count. drop count into ≡ drop count room)
  pub untouched : OnErr result (into ≡ room)
