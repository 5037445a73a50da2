use Rattle.std.proofs.Common.{length, subst, sym, ◌∙◌, arith}
use Rattle.frame_table.specs.Part.{Part}
use Rattle.frame_table.specs.Calls.{HasSeen}
use Rattle.match_run.proofs.BotPasses.{others_fed_all}
use Rattle.match_run.proofs.Taking.{taken_anew}
use Rattle.match_run.proofs.ticking.take_more.Goals as goal

pub loop-c-preserved : goal.loop-c-preserved
loop-c-preserved g c =
    let far = c.loop-c.invariant in
    let end = far.6 in
    let test = c.loop-c-test.true in
    let took = c.in_ok-take_client.ensures in (
      c.take_client.ensures.pass,
      took.knows,
      c.take_client.ensures.share ∙ far.2,
      λ d past below. subst (λ (r : Part). HasSeen r.reach c.args.n) (sym (took.others.2 d (λ same. absurd (omega arith)))) (far.3 d (omega arith) below),
      taken_anew _ _ _ _ _ (omega arith) far.4 took.own took.from,
      λ plays fed. others_fed_all (length c.args.scripts.now) c.loop-c.c c.args.table.now plays c.loop-c.pass c.take_client.new.pass (omega arith) took.others (far.5 plays fed),
      end,
    )
