-- What becomes of an actor's activities.
use Rattle.std.specs.Prelude.{nat_lt, if◌then◌else◌, Bool, true, false, List, [], ◌∷◌, ◌++◌, drop}
use Rattle.std.specs.Prelude.{length}
use Rattle.activities.specs.declared.activity.Activity.{Activity}
use Rattle.activities.specs.declared.queue.TheConstants.{MAX_ACTIVITIES}
use Rattle.game_model.specs.declared.actor.Actor.{Actor}

-- The actor with these activities.
abbrev pub with_acts : List Activity → Actor → Actor
with_acts acts a = record a { body = record a.body { acts = acts } }

-- The actor without its first activity.
abbrev pub popped : Actor → Actor
popped a = with_acts (drop 1 a.body.acts) a

-- The actor with another activity in place of its first.
abbrev pub with_first : Activity → Actor → Actor
with_first act a = with_acts (act ∷ drop 1 a.body.acts) a

-- The activities after an order: the new one takes the place of all, or, where it is queued, comes
-- after them. It is dropped where they are `MAX_ACTIVITIES` already.
abbrev pub acts_after : (queued : Bool) → Activity → List Activity → List Activity
acts_after false act acts = act ∷ []
acts_after true act acts = if nat_lt (length acts) MAX_ACTIVITIES then acts ++ act ∷ [] else acts
