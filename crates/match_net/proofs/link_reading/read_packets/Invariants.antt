use Rattle.std.proofs.Common.{◌++◌}
use Rattle.frame_table.specs.Calls.{view_of, IsPassOf}
use Rattle.match_net.specs.Ahead.{IsInStep}
use Rattle.match_net.specs.Greeting.{hello_bytes}
use Rattle.report_line.specs.Reports.{pushed, StaysOf}
use Rattle.match_net.specs.ReadSoFar.{ReadSoFar}
use Rattle.match_net.proofs.link_reading.read_packets.Given as goal

abbrev pub invariant-loop : goal.invariant-loop
invariant-loop g l =
    IsPassOf l.table l.pass
    × ReadSoFar l.invite.client l.invite.rules (hello_bytes l.invite.rules ++ l.fn.feeder.rest) (g.I.Source.state l.fn.link) (g.I.Source.state l.link) l.fn.taken l.taken
    (view_of l.fn.pass) (view_of l.pass) (pushed l.fn.reports) (pushed l.reports) l.feeder
    × StaysOf l.invite.client l.fn.reports l.reports
    × IsInStep l.invite.lag l.invite.client (view_of l.pass)
