use Rattle.std.proofs.Common.{[], ◌∷◌, arith}
use Rattle.std.proofs.lemmas.List.{length-append}
use Rattle.std.proofs.lemmas.List.Elements.{All-push}
use Rattle.std.proofs.lemmas.Result.{err_from_is_err_and}
use Rattle.game_save.specs.ActorReading.{next_build, IsProductOf}
use Rattle.game_save.proofs.EachLemmas.{each_step, each_bad, each_end}
use Rattle.game_save.proofs.build_reading.read_each_build.Goals as goal

pub returns-in_err-build-clause-reads : goal.returns-in_err-build-clause-reads
returns-in_err-build-clause-reads c =
    let p = err_from_is_err_and c.from_residual.result c.from_residual.ensures.1 in
    rw (p.1, p.2)
    (each_bad (next_build c.args.rules.now) c.loop.builds c.args.count c.loop.counter c.loop.c _ _ c.loop-test.true
    c.in_err-build.ensures.reads c.loop.invariant.rest)

pub loop-preserved : goal.loop-preserved
loop-preserved c =
    rw c.add_build.ensures (
    record {
      rest =
          each_step (next_build c.args.rules.now) c.loop.builds c.args.count c.loop.counter c.loop.c
          c.read_build.new.c c.in_ok-build.build _ c.loop-test.true c.in_ok-build.ensures.reads
          c.loop.invariant.rest;
      many = omega (arith, length-append c.loop.builds (c.in_ok-build.build ∷ []), c.loop.invariant.many);
      valid =
          All-push (IsProductOf c.args.rules.now) c.loop.builds c.in_ok-build.build c.loop.invariant.valid
          c.in_ok-build.ensures.valid;
    }
    )

pub returns-clause-reads : goal.returns-clause-reads
returns-clause-reads c =
    each_end (next_build c.args.rules.now) c.loop.builds c.args.count c.loop.counter c.loop.c _ c.loop-test.false
    c.loop.invariant.rest
