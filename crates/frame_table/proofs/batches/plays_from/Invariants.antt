use Rattle.std.proofs.Common.{◌≡◌, ◌∷◌, [], ◌-◌, take, drop}
use Rattle.frame_core.specs.Column.{Column}
use Rattle.frame_table.proofs.batches.plays_from.Given as goal

abbrev pub invariant-loop-at : goal.invariant-loop-at
invariant-loop-at l = (K : Column) → l.column ≡ K ∷ [] → l.plays ≡ take (l.at - l.n) (drop l.n K.plays)
