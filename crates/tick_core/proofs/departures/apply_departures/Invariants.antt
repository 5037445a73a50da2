-- The flags are those after the entries of the clients so far.
use Rattle.std.proofs.Common.{◌≡◌, length, take}
use Rattle.game_tick.specs.Departures.{gone_after}
use Rattle.tick_core.proofs.departures.apply_departures.Given as goal

abbrev pub invariant-loop-c : goal.invariant-loop-c
invariant-loop-c l =
    record {
      flags : l.gone ≡ gone_after l.initial.gone (take l.c l.f);
      clients : length l.gone ≡ length l.initial.gone;
    }
