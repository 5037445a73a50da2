-- The first actors are listed.
use Rattle.std.proofs.Common.{◌≡◌, ◌≤◌, take, map}
use Rattle.std.specs.Prelude.{vec_capacity}
use Rattle.std.specs.List.{All}
use Rattle.game_model.specs.declared.limits.TheConstants.{MAX_ACTORS}
use Rattle.actor_table.specs.Kinds.{listed_as, IsEntry}
use Rattle.actor_table.proofs.kind_index.KindIndex.filled.Given as goal

abbrev pub invariant-loop-actor : goal.invariant-loop-actor
invariant-loop-actor l =
    (l.entries.items ≡ map listed_as (take l.actor-index l.actors))
    × (All IsEntry l.entries.items)
    × (MAX_ACTORS ≤ vec_capacity l.entries)
