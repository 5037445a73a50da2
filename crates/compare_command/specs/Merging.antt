-- The differences of two lists of actors by rising id, by going over both at once.
use Rattle.std.specs.Prelude.{ℕ, ◌<◌, nat_lt, if◌then◌else◌, List, [], ◌∷◌, ◌++◌}
use Rattle.std.specs.Prelude.{Option, Some, None}
use Rattle.std.specs.List.{All, AllPairs}
use Rattle.game_model.specs.declared.actor.Actor.{Actor}
use Rattle.game_model.specs.declared.world.World.{World}
use Rattle.compare_command.specs.Difference.{Difference, OnlyFirst, OnlySecond}
use Rattle.compare_command.specs.Saves.{field_differences}

-- Of an actor and of the others, and then of the actors after it and of the rest of the others.
abbrev pub beside_others :
    (p : Actor) → (after : List Actor → List Difference) → (others : List Actor) → List Difference
beside_others p after [] = OnlyFirst p.id ∷ after []
beside_others p after (q ∷ others) =
    if nat_lt p.id q.id then OnlyFirst p.id ∷ after (q ∷ others)
    else (if nat_lt q.id p.id then OnlySecond q.id ∷ beside_others p after others
    else field_differences p q ++ after others)

abbrev pub only_others : List Actor → List Difference
only_others [] = []
only_others (q ∷ others) = OnlySecond q.id ∷ only_others others

-- Of both lists.
abbrev pub merged : (actors others : List Actor) → List Difference
merged [] others = only_others others
merged (p ∷ actors) others = beside_others p (merged actors) others

-- How many actors of either list have the lesser id of the next ones.
abbrev pub next_taken : Option Actor → Option Actor → ℕ × ℕ
next_taken None None = (0, 0)
next_taken None (Some q) = (0, 1)
next_taken (Some p) None = (1, 0)
next_taken (Some p) (Some q) =
    if nat_lt p.id q.id then (1, 0) else (if nat_lt q.id p.id then (0, 1) else (1, 1))

-- The differences of that id.
abbrev pub next_differences : Option Actor → Option Actor → List Difference
next_differences None None = []
next_differences None (Some q) = OnlySecond q.id ∷ []
next_differences (Some p) None = OnlyFirst p.id ∷ []
next_differences (Some p) (Some q) =
    if nat_lt p.id q.id then OnlyFirst p.id ∷ []
    else (if nat_lt q.id p.id then OnlySecond q.id ∷ [] else field_differences p q)

-- The ids of a world's actors rise and are below its next one.
pub record HasIds (w : World) : Type 0 where
  pub rise : AllPairs (λ (a b : Actor). a.id < b.id) w.actors
  pub below : All (λ (a : Actor). a.id < w.next_id) w.actors
