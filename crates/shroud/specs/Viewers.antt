-- Actors as the shroud keeps them.
use Rattle.std.specs.Prelude.{ℕ, ◌==◌, nat_lt, ◌&&◌, Bool, if◌then◌else◌, List, map}
use Rattle.std.specs.Prelude.{Option, Some, None}
use Rattle.world_units.specs.declared.cell.CPos.{CPos}
use Rattle.rule_traits.specs.declared.kind.Kind.{Kind}
use Rattle.rule_traits.specs.declared.trait_fields.Reveals.{Reveals}
use Rattle.rule_traits.specs.Rules.{kind_at}
use Rattle.game_model.specs.declared.actor.Actor.{Actor}
use Rattle.game_model.specs.World.{is_alive}
use Rattle.shroud.specs.declared.disc.Disc.{Disc}
use Rattle.shroud.specs.declared.viewer.Viewer.{Viewer}
use Rattle.shroud.specs.Discs.{disc_of}
use Rattle.shroud.specs.Sights.{reaches, reveals_in}

-- What of an actor decides what it reveals, with its id: its kind, its owner, its cell and whether
-- it lives. An actor of which this is as it was is unchanged.
abbrev pub viewer_of : Actor → Viewer
viewer_of a =
    record { id = a.id; kind = a.kind; owner = a.body.owner; alive = is_alive a; cell = a.cell }

abbrev pub viewers_of : List Actor → List Viewer
viewers_of actors = map viewer_of actors

-- What an actor of which this is kept sees.
abbrev pub views : List Kind → (c : ℕ) → CPos → Viewer → Bool
views rules c p v =
    v.alive && (v.owner == c) && reaches (reveals_in (kind_at rules v.kind)) v.cell p

-- The disc of the cells that it sees for one of so many clients, if it sees any.
abbrev pub disc_in : CPos → Option Reveals → Option Disc
disc_in cell (Some reveals) = Some (disc_of cell reveals.range)
disc_in cell None = None

abbrev pub disc_seen : List Kind → (clients : ℕ) → Viewer → Option Disc
disc_seen rules clients v =
    if nat_lt v.owner clients && v.alive
    then disc_in v.cell (reveals_in (kind_at rules v.kind))
    else None

-- Those of the last update that were not gone over yet, and those of the actors of this one so far.
pub record Lists : Type 0 where
  pub left : List Viewer
  pub fresh : List Viewer
