use Rattle.std.proofs.Common.{ap, length, ◌∙◌, ◌++◌, ◌∷◌, [], arith}
use Rattle.std.proofs.lemmas.List.FromFn.{length-map-range_with_len}
use Rattle.match_run.specs.Feeding.{HasFed}
use Rattle.match_run.proofs.BotPasses.{fed_more, all_bots}
use Rattle.match_run.proofs.feeding.put_plays.Goals as goal

pub push-requires : goal.push-requires
push-requires g c =
    let far = c.loop-i.invariant in
    let long = ap length far.ordered_are ∙ length-map-range_with_len _ _ _ in
    let most = c.clients-clients.ensures.most in
    let value = c.clients-clients.ensures.value in
    let clients = c.requires.clients in
    let test = c.loop-i-test.true in
    omega arith

pub loop-i-preserved : goal.loop-i-preserved
loop-i-preserved g c =
    let first = c.clients-first.ensures.value in
    let table = c.requires.table in
    let test = c.loop-i-test.true in
    fed_more _ _ _ _ _ _ _ _ _ _ _ _ _ _ c.loop-i.invariant c.put_play.ensures.pass (omega arith) (omega arith) c.requires.limit c.in_ok-orders.ensures c.as_slice.ensures.value c.in_ok-_answer.ensures.ok c.push.ensures

pub returns-clause-fed : goal.returns-clause-fed
returns-clause-fed g c plays long fed =
    let test = c.loop-i-test.false in
    all_bots _ _ c.args.table.now (λ k part. HasFed (plays k ++ g.B.Bots.orders_of c.args.bots.now c.args.sim.now k ∷ []) part) _ _ c.loop-i.i c.requires.table (omega arith) (c.loop-i.invariant.bots plays long fed)
