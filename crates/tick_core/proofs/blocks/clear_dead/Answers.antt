use Rattle.std.proofs.Common.{subst, sym}
use Rattle.std.proofs.lemmas.Option.{get_or_from_slice_get, slice_get_within}
use Rattle.game_model.specs.declared.actor.Actor.{Actor}
use Rattle.game_model.specs.Grid.{IsOn}
use Rattle.game_model.specs.Setup.{Setup}
use Rattle.tick_core.proofs.BlocksLemmas.{cleared_next}
use Rattle.tick_core.proofs.blocks.clear_dead.Goals as goal

-- The cell of the next actor is cleared, if it is a dead building.
pub loop-i-preserved : goal.loop-i-preserved
loop-i-preserved c =
    let setup : Setup = record { rules = c.args.rules.now; map = c.args.map.now } in
    let t = c.args.table.now in
    let a = c.in-Some.a.now in
    let at = sym c.in-Some.ensures in
    let within = slice_get_within t.actors c.loop-i.i a at in
    let on = subst (λ (x : Actor). IsOn t.width t.height x.cell) (get_or_from_slice_get t.actors c.loop-i.i a a at) (c.len-i-end.ensures.list.on_map c.loop-i.i a within) in
    cleared_next setup t.actors c.loop-i.i a c.loop-i.blocks c.unmark.new.blocks at
    (subst (λ n. IsOn n setup.map.height a.cell) c.requires.width (subst (λ n. IsOn t.width n a.cell) c.requires.height on))
    c.len-i-end.ensures.list.apart c.loop-i.invariant c.unmark.ensures
