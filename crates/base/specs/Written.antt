-- What an outside object tells of the bytes that were written to it. `None` is an object that tells
-- nothing: no clause on bytes speaks of it.
use Rattle.std.specs.Prelude.{◌≡◌, ℕ, List, ◌++◌, Option}
use Rattle.std.specs.Option.{option_map}

-- Exactly these bytes were added after what was there. What told its bytes before tells them
-- afterwards.
abbrev pub Wrote : Option (List ℕ) → Option (List ℕ) → List ℕ → Type 0
Wrote old new bytes = new ≡ option_map (λ held. held ++ bytes) old

-- A prefix of these bytes was added, and no others.
pub record WrotePrefix (old new : Option (List ℕ)) (bytes : List ℕ) : Type 0 where
  pub prefix : List ℕ
  pub rest : List ℕ
  pub whole : prefix ++ rest ≡ bytes
  pub wrote : Wrote old new prefix

-- Of the whole text, all but the given rest was added.
pub record WroteUpTo (old new : Option (List ℕ)) (rest whole : List ℕ) : Type 0 where
  pub prefix : List ℕ
  pub joined : prefix ++ rest ≡ whole
  pub wrote : Wrote old new prefix
