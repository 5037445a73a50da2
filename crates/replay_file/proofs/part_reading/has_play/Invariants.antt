-- None of the clients so far plays.
use Rattle.std.proofs.Common.{◌≡◌, drop}
use Rattle.std.specs.List.{list_any}
use Rattle.game_orders.specs.Entry.{is_play}
use Rattle.replay_file.proofs.part_reading.has_play.Given as goal

abbrev pub invariant-loop-client : goal.invariant-loop-client
invariant-loop-client l = list_any is_play (drop l.client l.frame) ≡ list_any is_play l.frame
