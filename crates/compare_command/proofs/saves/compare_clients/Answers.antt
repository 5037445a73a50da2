use Rattle.compare_command.specs.Saves.{client_differences}
use Rattle.compare_command.proofs.EachLemmas.{rest_found}
use Rattle.compare_command.proofs.saves.compare_clients.Goals as goal

pub loop-client-preserved : goal.loop-client-preserved
loop-client-preserved c =
    rest_found (client_differences c.args.a.now c.args.b.now) _ _ _ _ _ c.loop-client-test.true
    c.loop-client.invariant c.in_ok-compare_client.ensures
