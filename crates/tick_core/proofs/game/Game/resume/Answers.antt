use Rattle.game_model.specs.Setup.{Setup}
use Rattle.tick_core.proofs.ReadyLemmas.{ready_valid}
use Rattle.tick_core.proofs.game.Game.resume.Goals as goal

-- The copied world is ready.
pub of-requires : goal.of-requires
of-requires c =
    let setup : Setup = record { rules = c.args.rules.value; map = c.args.map.value } in
    rw c.in_ok-world.ensures
    (record { setup = c.requires.setup; valid = ready_valid setup c.args.frames c.args.w.now c.requires.valid })

-- It stays valid after so many frames.
pub invariant_of-result : goal.invariant_of-result
invariant_of-result c =
    rw (c.in_ok-of.ensures, c.in_ok-world.ensures)
    (record { stands = c.requires.setup; valid = c.requires.valid })
