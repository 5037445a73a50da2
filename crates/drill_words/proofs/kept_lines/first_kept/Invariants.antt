-- The lines so far are passed over.
use Rattle.std.proofs.Common.{◌≡◌, ◌+◌, ◌<◌, ◌^◌, length}
use Rattle.base.specs.Lines.{lines_of}
use Rattle.drill_words.specs.KeptLine.{kept_from}
use Rattle.drill_words.proofs.kept_lines.first_kept.Given as goal

abbrev pub invariant-loop-rest : goal.invariant-loop-rest
invariant-loop-rest l =
    record {
      same : kept_from l.number (lines_of l.rest) ≡ kept_from l.fn.first (lines_of l.fn.text);
      fits : l.number + length l.rest < 2 ^ 32;
    }

abbrev pub decreases-loop-rest : goal.decreases-loop-rest
decreases-loop-rest l = length l.rest
