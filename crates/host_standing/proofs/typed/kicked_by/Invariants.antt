use Rattle.std.proofs.Common.{◌≡◌, ℕ, ◌<◌, false}
use Rattle.host_standing.specs.Typed.{kicks_client}
use Rattle.host_standing.proofs.typed.kicked_by.Given as goal

abbrev pub invariant-loop-client : goal.invariant-loop-client
invariant-loop-client l = (c : ℕ) → c < l.client → kicks_client c l.line ≡ false
