use Rattle.std.proofs.Common.{◌≡◌, refl, subst, []}
use Rattle.std.specs.Prelude.{IfOk}
use Rattle.match_run.proofs.BotColumns.{filled_alone, world_alone, if_ok}
use Rattle.match_run.proofs.running.run_local.Goals as goal

pub returns-clause-filled : goal.returns-clause-filled
returns-clause-filled g c =
    if_ok _ _ _ (λ run so. filled_alone (record { after = g.S.Sim.after; orders = λ w k. []; start = c.args.sim; scripts = c.args.scripts.now; bots = 0 }) _ _ refl so) c.run_with_bots.ensures.filled

pub returns-clause-world : goal.returns-clause-world
returns-clause-world g c =
    subst (λ (w : g.row.S.Denot). IfOk c.run_with_bots.result (λ run. run.sim ≡ w))
    (world_alone (record { after = g.S.Sim.after; orders = λ w k. []; start = c.args.sim; scripts = c.args.scripts.now; bots = 0 }) refl)
    c.run_with_bots.ensures.world
