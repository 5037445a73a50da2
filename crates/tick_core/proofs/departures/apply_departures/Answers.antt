use Rattle.std.proofs.Common.{◌≤◌, length, sym, ◌∙◌, ap, arith, refl}
use Rattle.tick_core.specs.Departures.{departed_by}
use Rattle.tick_core.proofs.TickLemmas.{gone_after-nil, departed_next, length-departed_by}
use Rattle.tick_core.proofs.departures.apply_departures.Goals as goal
use Rattle.tick_core.proofs.departures.apply_departures.Goals.{in-Some, in_default}

-- Before the first client no flag has changed.
pub loop-c-init : goal.loop-c-init
loop-c-init c = record { flags = sym (gone_after-nil c.args.gone.now); clients = refl }

-- The entry of the next client goes on; there is one, since the frame has one for each client.
pub loop-c-preserved : goal.loop-c-preserved
loop-c-preserved c =
    elim c.match-get.branch [
      | in-Some w ↦ rw (w.gone-is, w.apply_departure.ensures)
          (record {
            flags =
                ap (λ flags. departed_by flags c.loop-c.c w.in-Some.entry.now) c.loop-c.invariant.flags
                ∙ departed_next c.args.gone.now c.args.f.now c.loop-c.c _ c.requires (sym (rw c.from.ensures at w.in-Some.ensures.value));
            clients = length-departed_by c.loop-c.gone c.loop-c.c _ ∙ c.loop-c.invariant.clients;
          })
      | in_default w ↦
          let past : length c.args.f.now ≤ c.loop-c.c =
          rw c.from.ensures at w.in_default.ensures.past in
          absurd (omega arith)
    ]
