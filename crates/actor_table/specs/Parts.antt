-- An actor with one part of its body changed.
use Rattle.std.specs.Prelude.{ℕ, ◌∷◌, drop, List, Option}
use Rattle.activities.specs.declared.activity.Activity.{Activity}
use Rattle.game_model.specs.declared.actor.Actor.{Actor}
use Rattle.game_model.specs.declared.actor.Leg.{Leg}
use Rattle.game_model.specs.declared.builds.Build.{Build}

abbrev pub with_leg : Option Leg → Actor → Actor
with_leg leg a = record a { body = record a.body { leg = leg } }

abbrev pub with_facing : ℕ → Actor → Actor
with_facing facing a = record a { body = record a.body { facing = facing } }

abbrev pub with_reload : ℕ → Actor → Actor
with_reload reload a = record a { body = record a.body { reload = reload } }

-- The activity in place of the first one, also where there was none.
abbrev pub with_first : Activity → Actor → Actor
with_first activity a = record a { body = record a.body { acts = activity ∷ drop 1 a.body.acts } }

-- Without the first activity.
abbrev pub without_first : Actor → Actor
without_first a = record a { body = record a.body { acts = drop 1 a.body.acts } }

abbrev pub with_builds : List Build → Actor → Actor
with_builds builds a = record a { body = record a.body { builds = builds } }

abbrev pub with_load : ℕ → Actor → Actor
with_load load a = record a { body = record a.body { load = load } }

abbrev pub with_health : ℕ → Actor → Actor
with_health health a = record a { body = record a.body { health = health } }
