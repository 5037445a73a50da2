-- From one fact of an optional value to another.
use Rattle.std.proofs.Common.{Option, None, Some, IfSome, IfNone}

pub map_some : {A : Type 0} (o : Option A) (P Q : A → Type 0) → ((a : A) → P a → Q a) → IfSome o P → IfSome o Q
map_some None P Q next has = tt
map_some (Some a) P Q next has = next a has

pub map_none : {A P Q : Type 0} (o : Option A) → (P → Q) → IfNone o P → IfNone o Q
map_none None next has = next has
map_none (Some a) next has = tt
