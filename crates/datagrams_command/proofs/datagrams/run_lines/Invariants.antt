-- What was run so far, and what is left to run, is the whole.
use Rattle.std.proofs.Common.{◌≡◌, ◌≤◌, length, string_bytes}
use Rattle.drill_words.specs.declared.limits.TheConstants.{MAX_EVENTS}
use Rattle.datagrams_command.specs.Run.{run_from}
use Rattle.datagrams_command.proofs.datagrams.run_lines.Given as goal

abbrev pub invariant-loop-number : goal.invariant-loop-number
invariant-loop-number l =
    record {
      whole : run_from l.before l.exchange (string_bytes l.text) l.lines
          ≡ run_from 0 l.fn.exchange (string_bytes l.fn.text) l.fn.lines;
      few : l.before ≤ MAX_EVENTS;
    }

abbrev pub decreases-loop-number : goal.decreases-loop-number
decreases-loop-number l = length l.lines
