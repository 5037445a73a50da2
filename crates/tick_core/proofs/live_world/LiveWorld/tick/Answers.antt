use Rattle.game_tick.proofs.DeparturesLemmas.{departures_valid}
use Rattle.tick_core.proofs.live_world.LiveWorld.tick.Goals as goal

pub apply_plays-requires-clause-ready : goal.apply_plays-requires-clause-ready
apply_plays-requires-clause-ready c =
    let s = c.args.self.now in
    rw c.let_depart.ensures (departures_valid s.setup 0 s.world.tick s.world.drawn s.world c.args.f.now c.requires.ready)
