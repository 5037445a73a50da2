use Rattle.game_model.specs.Setup.{Setup}
use Rattle.game_model.proofs.StartLemmas.{start_valid}
use Rattle.tick_core.proofs.ReadyLemmas.{ready_valid}
use Rattle.tick_core.proofs.game.Game.begin.Goals as goal

-- The opening world is valid.
pub of-requires : goal.of-requires
of-requires c =
    let setup : Setup = record { rules = c.args.rules.value; map = c.args.map.value } in
    rw (c.in_ok-world.ensures, c.deref.ensures, c.deref-2.ensures)
    (record {
      setup = c.requires.setup;
      valid = ready_valid setup 0 _ (start_valid setup c.args.seed c.args.clients c.requires.setup c.requires.least c.requires.most);
    })

pub invariant_of-result : goal.invariant_of-result
invariant_of-result c =
    let setup : Setup = record { rules = c.args.rules.value; map = c.args.map.value } in
    rw (c.in_ok-of.ensures, c.in_ok-world.ensures, c.deref.ensures, c.deref-2.ensures)
    (record {
      stands = c.requires.setup;
      valid = start_valid setup c.args.seed c.args.clients c.requires.setup c.requires.least c.requires.most;
    })
