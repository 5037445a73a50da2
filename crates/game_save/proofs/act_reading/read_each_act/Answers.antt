use Rattle.std.proofs.Common.{[], ◌∷◌, arith}
use Rattle.std.proofs.lemmas.List.{length-append}
use Rattle.std.proofs.lemmas.List.Elements.{All-push}
use Rattle.std.proofs.lemmas.Result.{err_from_is_err_and}
use Rattle.game_model.specs.ValidWorld.{IsActivityOf}
use Rattle.game_save.specs.ActorReading.{next_act}
use Rattle.game_save.proofs.EachLemmas.{each_step, each_bad, each_end}
use Rattle.game_save.proofs.act_reading.read_each_act.Goals as goal

pub returns-in_err-act-clause-reads : goal.returns-in_err-act-clause-reads
returns-in_err-act-clause-reads c =
    let p = err_from_is_err_and c.from_residual.result c.from_residual.ensures.1 in
    rw (p.1, p.2)
    (each_bad (next_act c.args.map.now c.args.kind.now) c.loop.acts c.args.count c.loop.counter c.loop.c _ _ c.loop-test.true
    c.in_err-act.ensures.reads c.loop.invariant.rest)

pub loop-preserved : goal.loop-preserved
loop-preserved c =
    rw c.add_act.ensures (
    record {
      rest =
          each_step (next_act c.args.map.now c.args.kind.now) c.loop.acts c.args.count c.loop.counter c.loop.c
          c.read_activity.new.c c.in_ok-act.act _ c.loop-test.true c.in_ok-act.ensures.reads
          c.loop.invariant.rest;
      many = omega (arith, length-append c.loop.acts (c.in_ok-act.act ∷ []), c.loop.invariant.many);
      valid =
          All-push (IsActivityOf c.args.map.now c.args.kind.now) c.loop.acts c.in_ok-act.act c.loop.invariant.valid
          c.in_ok-act.ensures.valid;
    }
    )

pub returns-clause-reads : goal.returns-clause-reads
returns-clause-reads c =
    each_end (next_act c.args.map.now c.args.kind.now) c.loop.acts c.args.count c.loop.counter c.loop.c _ c.loop-test.false
    c.loop.invariant.rest
