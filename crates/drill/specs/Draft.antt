-- A drill that is being made, and what is added to it.
use Rattle.std.specs.Prelude.{ℕ, ◌+◌, ◌==◌, if◌then◌else◌, List, [], ◌∷◌, ◌++◌, length}
use Rattle.twister.specs.Place.{Place, start_of}
use Rattle.drill_words.specs.declared.event.Event.{Event}
use Rattle.drill_words.specs.declared.event.Event.TheVariants.{Seal}
use Rattle.drill.specs.Drawing.{below}
use Rattle.drill.specs.MadeOrders.{drawn_orders}
use Rattle.drill.specs.declared.made_limits.TheConstants.{LOSS_CHOICES}

-- The place of the next random word, how many packets were sent up, and the events so far.
pub record DraftState : Type 0 where
  pub dice : Place
  pub sent : ℕ
  pub events : List Event

-- Before the first event of the drill that is made from a seed.
abbrev pub fresh_draft : ℕ → DraftState
fresh_draft seed = record { dice = start_of seed; sent = 0; events = [] }

-- The event comes next.
abbrev pub with_event : Event → DraftState → DraftState
with_event event draft = record draft { events = draft.events ++ event ∷ [] }

-- An event comes next that sends a packet up.
abbrev pub with_packet : Event → DraftState → DraftState
with_packet event draft = record (with_event event draft) { sent = draft.sent + 1 }

-- The client seals its next frame, with drawn orders.
abbrev pub with_seal : (client : ℕ) → DraftState → DraftState
with_seal client draft =
    with_packet (Seal client (drawn_orders draft.dice).0)
    (record draft { dice = (drawn_orders draft.dice).1 })

-- The event comes next, unless a draw loses what it brings.
abbrev pub with_event_unless_lost : Event → DraftState → DraftState
with_event_unless_lost event draft =
    let lost = below LOSS_CHOICES draft.dice in
    let after = record draft { dice = lost.1 } in
    if lost.0 == 0 then after else with_event event after

-- The draws, the packets and the events together.
abbrev pub size : DraftState → ℕ
size draft = draft.dice.drawn + draft.sent + length draft.events
