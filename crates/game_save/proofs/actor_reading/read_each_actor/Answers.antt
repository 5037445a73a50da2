use Rattle.std.proofs.Common.{[], ◌∷◌, sym, inr, arith}
use Rattle.std.proofs.lemmas.List.{length-append}
use Rattle.std.proofs.lemmas.Result.{err_from_is_err_and}
use Rattle.game_save.specs.ActorReading.{actor_in}
use Rattle.game_save.specs.ReadSave.{setup_with}
use Rattle.game_save.proofs.EachLemmas.{each_step, each_bad, each_end}
use Rattle.game_save.proofs.JoinLemmas.{id_after_one, joined_more}
use Rattle.game_save.proofs.actor_reading.read_each_actor.Goals as goal

pub returns-in_err-actor-clause-reads : goal.returns-in_err-actor-clause-reads
returns-in_err-actor-clause-reads c =
    let p =
    err_from_is_err_and c.from_residual-in_err-actor.result c.from_residual-in_err-actor.ensures.1 in
    rw (p.1, p.2) (
    inr (
    each_bad (actor_in (setup_with c.args.rules.now c.args.map.now) c.args.clients c.args.next_id)
    c.loop.crew.actors c.args.count c.loop.counter c.loop.c _ _ c.loop-test.true
    c.in_err-actor.ensures.reads c.loop.invariant.rest
    )
    )

pub loop-preserved : goal.loop-preserved
loop-preserved c =
    let setup = setup_with c.args.rules.now c.args.map.now in
    let held = c.loop.crew.actors in
    let actor = c.in_ok-actor.actor in
    rw c.in_ok-add.ensures (
    record {
      rest =
          each_step (actor_in setup c.args.clients c.args.next_id) held c.args.count
          c.loop.counter c.loop.c c.read_actor.new.c actor _ c.loop-test.true
          c.in_ok-actor.ensures.reads c.loop.invariant.rest;
      many = omega (arith, length-append held (actor ∷ []), c.loop.invariant.many);
      width = c.loop.invariant.width;
      height = c.loop.invariant.height;
      least = sym (id_after_one 1 held actor);
      joined =
          joined_more setup c.args.clients c.args.next_id held actor c.loop.invariant.joined
          c.in_ok-actor.ensures.valid;
    }
    )

pub returns-clause-reads : goal.returns-clause-reads
returns-clause-reads c =
    rw c.into_actors.ensures
    (each_end (actor_in (setup_with c.args.rules.now c.args.map.now) c.args.clients c.args.next_id)
    c.loop.crew.actors c.args.count c.loop.counter c.loop.c _ c.loop-test.false
    c.loop.invariant.rest)
