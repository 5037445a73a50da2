-- The questions for which a router keeps what it found, and which of them count.
use Rattle.std.specs.Prelude.{◌≡◌, ◌⊎◌, ℕ, ◌+◌, ◌-◌, ◌^◌, min, All, Contains, List, [], ◌∷◌, ◌++◌}
use Rattle.std.specs.Prelude.{map}
use Rattle.std.specs.Prelude.{Option, Some, None}
use Rattle.world_units.specs.declared.cell.CPos.{CPos}
use Rattle.rule_traits.specs.declared.trait_fields.Costs.{Costs}
use Rattle.grid_routes.specs.declared.ask.Ask.{Ask}
use Rattle.grid_routes.specs.declared.fields.Kept.{Kept}
use Rattle.grid_routes.specs.declared.findings.Findings.{Findings}
use Rattle.grid_routes.specs.declared.known_walk.KnownWalk.{KnownWalk}

-- The question for the way to a goal at these costs.
abbrev pub ask_for : Costs → CPos → Ask
ask_for costs goal = record { goal = goal; costs = costs }

-- Questions with one more, if there is one.
abbrev pub with_ask : Option Ask → List Ask → List Ask
with_ask None asks = asks
with_ask (Some ask) asks = ask ∷ asks

-- Those to which fields belong.
abbrev pub field_asks : List Kept → List Ask
field_asks [] = []
field_asks (k ∷ kept) = with_ask k.ask (field_asks kept)

-- Those of the search's own field and of the others.
abbrev pub asks_of : Option Ask → List Kept → List Ask
asks_of own kept = with_ask own (field_asks kept)

-- Those of known walks.
abbrev pub walk_asks : List KnownWalk → List Ask
walk_asks walks = map (λ (walk : KnownWalk). walk.ask) walks

-- Those of all fields and of all walks.
abbrev pub asks_in : Findings → List Ask
asks_in findings =
    asks_of findings.fields.ask findings.fields.kept.items ++ walk_asks findings.known.walks.items

-- The question is this one, or one of these.
abbrev pub IsOrIn : Ask → List Ask → Ask → Type 0
IsOrIn this asks ask = (ask ≡ this) ⊎ Contains asks ask

-- Something may be kept for this question now, and for no other one for which nothing was.
abbrev pub KeepsOnly : Ask → (old new : List Ask) → Type 0
KeepsOnly this old new = All (IsOrIn this old) new

-- One field more. The count stays at the greatest number of 64 bits.
abbrev pub one_more : ℕ → ℕ
one_more count = min (count + 1) (2 ^ 64 - 1)

-- The count rises by one, or it stays, which it may only where something is kept for the question.
abbrev pub CountsOn : List Ask → Ask → (old new : ℕ) → Type 0
CountsOn asks ask old new = (Contains asks ask × (new ≡ old)) ⊎ (new ≡ one_more old)
