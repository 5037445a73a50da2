use Rattle.replay_run.proofs.PlayingLemmas.{begins_fit}
use Rattle.replay_run.proofs.playback.Playback.begin.Goals as goal

pub invariant_of-result : goal.invariant_of-result
invariant_of-result g c =
    begins_fit g.S.Sim.clients_of g.S.Sim.steps c.args.world c.args.r.now c.iter.result
    c.requires.valid c.requires.clients c.requires.fresh c.iter.ensures
