use Rattle.compare_command.specs.Replays.{entry_differences}
use Rattle.compare_command.proofs.EachLemmas.{rest_found}
use Rattle.compare_command.proofs.replays.compare_each.Goals as goal

pub loop-client-preserved : goal.loop-client-preserved
loop-client-preserved c =
    rest_found (entry_differences c.args.n c.args.frame.now c.args.other.now) _ _ _ _ _
    c.loop-client-test.true c.loop-client.invariant c.in_ok-compare_client.ensures
