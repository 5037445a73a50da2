use Rattle.std.proofs.Common.{◌≡◌, ◌<◌, [], length}
use Rattle.frame_table.specs.Calls.{view_of, IsPassOf}
use Rattle.match_net.specs.Sending.{Sending}
use Rattle.match_net.proofs.sending.send_all.Given as goal

abbrev pub invariant-loop : goal.invariant-loop
invariant-loop g l =
    IsPassOf l.table l.pass
    × (length l.counts ≡ l.clients)
    × (l.c < l.clients)
    × Sending (length l.counts) [] (g.O.Sink.state l.fn.link) (g.O.Sink.state l.link) (view_of l.fn.pass) (view_of l.pass) l.counts
