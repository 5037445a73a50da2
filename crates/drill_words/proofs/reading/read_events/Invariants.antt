-- What is read so far, and what is left to read, is the whole.
use Rattle.std.proofs.Common.{◌≡◌, ◌≤◌, true, length}
use Rattle.std.specs.List.{list_all}
use Rattle.drill_words.specs.declared.limits.TheConstants.{MAX_EVENTS}
use Rattle.drill_words.specs.Event.{event_fits}
use Rattle.drill_words.specs.Drill.{events_from}
use Rattle.drill_words.proofs.DrillLemmas.{after_events}
use Rattle.drill_words.proofs.reading.read_events.Given as goal

abbrev pub invariant-loop-number : goal.invariant-loop-number
invariant-loop-number l =
    record {
      whole : after_events l.events (events_from l.clients (length l.events) l.lines) ≡ events_from l.clients 0 l.fn.lines;
      few : length l.events ≤ MAX_EVENTS;
      fit : list_all (event_fits l.clients) l.events ≡ true;
    }

abbrev pub decreases-loop-number : goal.decreases-loop-number
decreases-loop-number l = length l.lines
