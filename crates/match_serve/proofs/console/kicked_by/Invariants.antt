use Rattle.std.proofs.Common.{◌≡◌, ℕ, ◌<◌, false}
use Rattle.match_serve.specs.Console.{kicks_client}
use Rattle.match_serve.proofs.console.kicked_by.Given as goal

abbrev pub invariant-loop-c : goal.invariant-loop-c
invariant-loop-c l = (d : ℕ) → d < l.c → kicks_client d l.line ≡ false
