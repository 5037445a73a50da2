use Rattle.std.proofs.Common.{ap, length, ◌∙◌, arith}
use Rattle.match_run.proofs.BotColumns.{is_played, is_filled, end_world}
use Rattle.match_run.proofs.LocalPasses.{all_lent}
use Rattle.match_run.proofs.running.run_with_bots.Goals as goal

pub returns-in_err-table-clause-played : goal.returns-in_err-table-clause-played
returns-in_err-table-clause-played g c = is_played _

pub returns-in_err-run_threads-clause-played : goal.returns-in_err-run_threads-clause-played
returns-in_err-run_threads-clause-played g c = is_played _

pub join_passes-requires-clause-passes : goal.join_passes-requires-clause-passes
join_passes-requires-clause-passes g c =
    let same = c.run_threads.auto.passes in
    let lent = ap length c.as_mut_slice.ensures.value in
    let held = c.in_ok-table.passes.ok in
    all_lent _ _ c.in_ok-table.passes.len c.run_threads.new.passes _ (omega arith) c.run_threads.ensures.passes

pub look_again-requires-clause-ended : goal.look_again-requires-clause-ended
look_again-requires-clause-ended g c = (_, c.join_passes.ensures.ended _ c.in_ok-run_threads.ensures.bots)

pub returns-clause-filled : goal.returns-clause-filled
returns-clause-filled g c =
    let looked = c.look_again.ensures in
    is_filled (record { after = g.S.Sim.after; orders = g.B.Bots.orders_of c.args.bots.now; start = c.args.sim; scripts = c.args.scripts.now; bots = c.args.count }) _ _ looked.pass.of_table c.in_ok-table.ensures.table looked.share looked.all (looked.bots _ (c.join_passes.ensures.ended _ c.in_ok-run_threads.ensures.bots))

pub returns-clause-played : goal.returns-clause-played
returns-clause-played g c = is_played _

pub returns-clause-world : goal.returns-clause-world
returns-clause-world g c = c.in_ok-run_threads.ensures.world.world_is ∙ end_world (record { after = g.S.Sim.after; orders = g.B.Bots.orders_of c.args.bots.now; start = c.args.sim; scripts = c.args.scripts.now; bots = c.args.count })
