use Rattle.std.proofs.Common.{arith}
use Rattle.std.proofs.lemmas.Grind.{common_steps}
use Rattle.sync_hash.proofs.NumbersLemmas.{length_with}
use Rattle.sync_hash.proofs.actor_numbers.ActorNumbers.set_all.Goals as goal

-- The next actor's number is set, and those of the actors after it are left.
pub loop-actor-preserved : goal.loop-actor-preserved
loop-actor-preserved c =
    let longer = length_with c.loop-actor.self c.actor-item.result.id c.actor_number.result in
    record {
      rest = grind (arith, common_steps, c.set-before.ensures.after, c.actor_number.ensures, c.actor-item.is, c.loop-actor.invariant.rest);
      room = grind (arith, common_steps, c.set-before.ensures.after, longer, c.loop-actor.invariant.room);
    }
