use Rattle.std.proofs.Common.{◌≡◌, ◌≤◌, Some, ap, sym, ◌∙◌, subst, List, length, arith}
use Rattle.game_orders.specs.declared.order.Order.{Order}
use Rattle.game_orders.specs.declared.limits.TheConstants.{MAX_FRAMES}
use Rattle.std.specs.Prelude.{slice_get}
use Rattle.drill_words.specs.Scripts.{plays_of}
use Rattle.match_run.proofs.LocalPasses.{put_more, left_all}
use Rattle.match_run.proofs.playing.play_script.Goals as goal

pub loop-n-preserved : goal.loop-n-preserved
loop-n-preserved g c =
    let at : slice_get (plays_of c.args.scripts.now c.args.c) c.loop-n.n ≡ Some c.play.result.now =
    ap (λ (xs : List (List Order)). slice_get xs c.loop-n.n) (sym c.plays-plays.ensures.value) ∙ c.play.ensures.value in (
      put_more _ _ _ _ _ _ _ c.requires.client c.loop-n.invariant.0 c.put_play.ensures.pass _ _ at (let v = c.plays-plays.ensures.value in let l = c.plays-plays.ensures.limit in subst (λ (xs : List (List Order)). length xs ≤ MAX_FRAMES) v l) c.in_ok-_answer.ensures.ok,
      c.loop-n.invariant.1,
    )

pub returns-clause-pass : goal.returns-clause-pass
returns-clause-pass g c =
    let end = c.loop-n-test.false in
    let all = c.loop-n.invariant.1 in
    (left_all _ _ _ _ _ _ _ c.requires.client c.loop-n.invariant.0 c.leave-left.ensures.pass _ (omega arith) c.leave-left.ensures.left).0
