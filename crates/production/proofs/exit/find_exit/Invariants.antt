use Rattle.std.proofs.Common.{◌≡◌, ℕ, ◌<◌, false}
use Rattle.game_model.specs.Buildings.{neighbour_of}
use Rattle.game_tick.specs.Building.{is_open}
use Rattle.game_model.specs.Kinds.{kind_of}
use Rattle.game_model.specs.Setup.{setup_in}
use Rattle.production.proofs.exit.find_exit.Given as goal

abbrev pub invariant-loop-d : goal.invariant-loop-d
invariant-loop-d l =
    (k : ℕ) → k < l.d →
    is_open (setup_in l.g) l.t.actors (kind_of l.g.rules.now l.kind) (neighbour_of l.g.map.now.width l.g.map.now.height l.from k) ≡ false
