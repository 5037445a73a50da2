use Rattle.std.proofs.Common.{◌≡◌, ℕ, ◌<◌, true}
use Rattle.frame_table.specs.Calls.{view_of, standing}
use Rattle.match_serve.specs.Passes.{IsServePass, Learns}
use Rattle.match_serve.proofs.console.have_all_left.Given as goal

abbrev pub invariant-loop-c : goal.invariant-loop-c
invariant-loop-c l = IsServePass l.clients l.table l.pass × Learns (view_of l.initial.pass) (view_of l.pass) × ((d : ℕ) → d < l.c → (standing l.pass d).reach.left ≡ true)
