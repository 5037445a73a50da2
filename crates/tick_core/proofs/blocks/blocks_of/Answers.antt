use Rattle.std.proofs.Common.{◌∙◌, ap, Some, subst, sym}
use Rattle.std.proofs.lemmas.Option.{slice_get-get_or}
use Rattle.game_model.specs.declared.actor.Actor.{Actor}
use Rattle.game_model.specs.Grid.{IsOn}
use Rattle.game_model.specs.Setup.{Setup}
use Rattle.tick_core.proofs.BlocksLemmas.{marked_next, none_yet}
use Rattle.tick_core.proofs.blocks.blocks_of.Goals as goal

pub loop-a-init : goal.loop-a-init
loop-a-init c =
    let setup : Setup = record { rules = c.args.rules.now; map = c.args.map.now } in
    c.in_ok-blocks.ensures ∙ none_yet setup

pub loop-a-preserved : goal.loop-a-preserved
loop-a-preserved c =
    let setup : Setup = record { rules = c.args.rules.now; map = c.args.map.now } in
    let actors = c.args.actors.now in
    let a = c.a-item.result in
    marked_next setup actors c.loop-a.a-index a c.loop-a.blocks c.mark.new.blocks
    (slice_get-get_or actors c.loop-a.a-index a c.loop-a-test.true ∙ ap Some (sym c.a-item.is))
    (subst (λ (x : Actor). IsOn setup.map.width setup.map.height x.cell) (sym c.a-item.is) (c.requires.on_map c.loop-a.a-index a c.loop-a-test.true))
    c.loop-a.invariant c.mark.ensures
