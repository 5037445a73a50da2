-- What a write leaves of the bytes before it.
use Rattle.std.specs.Prelude.{◌≡◌, ℕ, List, length, take}

-- `new` begins with `old`: nothing of it is lost.
pub record Extends (old new : List ℕ) : Type 0 where
  pub kept : take (length old) new ≡ old
