use Rattle.std.proofs.Common.{◌≡◌, take}
use Rattle.game_model.proofs.copies.copy_actors.Given as goal

-- The actors so far are copied.
abbrev pub invariant-loop-actor : goal.invariant-loop-actor
invariant-loop-actor l = l.copies.items ≡ take l.actor-index l.actors
