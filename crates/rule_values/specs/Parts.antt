-- A text that is cut at a separator.
use Rattle.std.specs.Prelude.{◌≡◌, ℕ, List, ◌==◌, nat_lt, length, Option, Some, None, MatchOption}
use Rattle.std.specs.Prelude.{if◌then◌else◌}
use denote.Ref.{Bor}
use Rattle.std.specs.List.{position_or_len, before_first, after_first}

-- What stands before the first byte `c` and after it, where there is one.
unfoldable pub parts_at : ℕ → List ℕ → Option (List ℕ × List ℕ)
parts_at c text =
    if nat_lt (position_or_len (λ b. b == c) text) (length text)
    then Some (before_first (λ b. b == c) text, after_first (λ b. b == c) text)
    else None

-- The two texts are these parts, or there is no such byte.
abbrev pub IsCutAt : ℕ → List ℕ → Option (Bor (List ℕ) × Bor (List ℕ)) → Type 0
IsCutAt c text result =
    MatchOption result (parts_at c text ≡ None)
    (λ parts. parts_at c text ≡ Some (parts.0.now, parts.1.now))
