-- The clients so far were compared.
use Rattle.std.proofs.Common.{◌≡◌}
use Rattle.compare_command.specs.Found.{with_found}
use Rattle.compare_command.specs.Replays.{entry_differences, frame_differences}
use Rattle.compare_command.proofs.EachLemmas.{rest_of}
use Rattle.compare_command.proofs.replays.compare_each.Given as goal

abbrev pub invariant-loop-client : goal.invariant-loop-client
invariant-loop-client l =
    with_found l.found (rest_of (entry_differences l.n l.frame l.other) l.clients l.client)
    ≡ with_found l.initial.found (frame_differences l.n l.clients l.frame l.other)
