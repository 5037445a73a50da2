use Rattle.frame_table.specs.Calls.{view_of, standing, IsPassOf}
use Rattle.match_net.specs.Ahead.{IsInStep, LooksAround}
use Rattle.match_net.specs.Reading.{MayPlay}
use Rattle.match_net.proofs.waiting.wait_to_go_on.Given as goal

abbrev pub invariant-loop-look : goal.invariant-loop-look
invariant-loop-look g l =
    IsPassOf l.table l.pass
    × LooksAround l.c (view_of l.fn.pass) (view_of l.pass)
    × MayPlay (standing l.pass l.c)
    × IsInStep l.lag l.c (view_of l.pass)
