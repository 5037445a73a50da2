use Rattle.std.proofs.Common.{subst}
use Rattle.std.proofs.lemmas.List.Elements.{All-more}
use Rattle.world_text.specs.Numbers.{IsActorHeld}
use Rattle.world_text.proofs.held.actors_held.Goals as goal

pub loop-actor-preserved : goal.loop-actor-preserved
loop-actor-preserved c =
    All-more IsActorHeld c.args.actors.now c.loop-actor.actor-index _ c.loop-actor-test.true
    c.loop-actor.invariant (subst IsActorHeld c.actor-item.is c.actor_held.ensures)
