use Rattle.std.proofs.Common.{◌≡◌, length}
use Rattle.match_serve.specs.Passes.{IsServePass}
use Rattle.match_serve.specs.Watching.{TakenSoFar}
use Rattle.match_serve.proofs.console.take_all.Given as goal

abbrev pub invariant-loop-turn : goal.invariant-loop-turn
invariant-loop-turn g l =
    IsServePass l.clients l.table l.pass
    × (length l.kicks.kicked.items ≡ l.clients)
    × TakenSoFar l.clients l.table (g.C.Source.state l.fn.console) (g.C.Source.state l.console) l.fn.pass l.pass l.kicks
