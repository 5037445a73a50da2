use Rattle.std.proofs.Common.{◌≡◌, Some, sym, ◌∙◌}
use Rattle.game_model.specs.Grid.{IsOn}
use Rattle.game_model.specs.Setup.{setup_in}
use Rattle.motion.specs.Ground.{built_in}
use Rattle.harvest.proofs.StepCases.{deliver_empty, deliver_ends, deliver_unloads, deliver_goes, refinery_on}
use Rattle.harvest.proofs.deliver.deliver.Goals as goal

pub go_towards_on_current_ground-requires-clause-goal : goal.go_towards_on_current_ground-requires-clause-goal
go_towards_on_current_ground-requires-clause-goal c =
    let on : IsOn c.args.t.now.width c.args.t.now.height c.in-Some-nearest_refinery.refinery.now.cell = refinery_on c.args.g.now.rules.now c.args.t.now c.in-Some.a.now c.in-Some-nearest_refinery.refinery.now c.len-on_map.ensures.list c.in-Some-nearest_refinery.ensures.value in
    rw (← c.requires.fits.wide, ← c.requires.fits.high) on

pub returns-then-a-eq0-clause-delivered : goal.returns-then-a-eq0-clause-delivered
returns-then-a-eq0-clause-delivered c ore a found =
    let same : Some a ≡ Some c.in-Some.a.now = sym found ∙ sym c.in-Some.ensures in
    let is : a ≡ c.in-Some.a.now = cc in
    rw is (deliver_empty c.args.t.now c.set_head.new.t ore c.args.purse.now c.args.id c.in-Some.a.now (sym c.in-Some.ensures) (setup_in c.args.g.now) (built_in c.args.g.now) c.args.home c.args.timer c.args.waits c.if-a-eq0.true c.set_head.ensures)

pub returns-in_default-nearest_refinery-clause-delivered : goal.returns-in_default-nearest_refinery-clause-delivered
returns-in_default-nearest_refinery-clause-delivered c ore a found =
    let same : Some a ≡ Some c.in-Some.a.now = sym found ∙ sym c.in-Some.ensures in
    let is : a ≡ c.in-Some.a.now = cc in
    rw is (deliver_ends c.args.t.now c.pop_head.new.t ore c.args.purse.now c.args.id c.in-Some.a.now (sym c.in-Some.ensures) (setup_in c.args.g.now) (built_in c.args.g.now) c.args.home c.args.timer c.args.waits c.if-a-eq0.false c.in_default-nearest_refinery.ensures.value c.pop_head.ensures)

pub returns-then-is_beside-clause-delivered : goal.returns-then-is_beside-clause-delivered
returns-then-is_beside-clause-delivered c ore a found =
    let same : Some a ≡ Some c.in-Some.a.now = sym found ∙ sym c.in-Some.ensures in
    let is : a ≡ c.in-Some.a.now = cc in
    let done = rw c.bale_value_of-value.ensures at c.unload_turn.ensures ore c.in-Some.a.now (sym c.in-Some.ensures) in
    rw is (deliver_unloads c.args.t.now c.unload_turn.new.t ore c.args.purse.now c.args.id c.in-Some.a.now (sym c.in-Some.ensures) (setup_in c.args.g.now) (built_in c.args.g.now) c.args.home c.args.timer c.args.waits c.in-Some-nearest_refinery.refinery.now c.in-Some-nearest_refinery.ensures.value c.if-a-eq0.false c.unload_turn.new.purse (sym c.is_beside.ensures ∙ c.if-is_beside.true) done)

pub returns-else-is_beside-clause-delivered : goal.returns-else-is_beside-clause-delivered
returns-else-is_beside-clause-delivered c ore a found =
    let same : Some a ≡ Some c.in-Some.a.now = sym found ∙ sym c.in-Some.ensures in
    let is : a ≡ c.in-Some.a.now = cc in
    rw is (deliver_goes c.args.t.now c.go_towards_on_current_ground.new.t ore c.args.purse.now c.args.id c.in-Some.a.now (sym c.in-Some.ensures) (setup_in c.args.g.now) (built_in c.args.g.now) c.args.home c.args.timer c.args.waits c.in-Some-nearest_refinery.refinery.now c.in-Some-nearest_refinery.ensures.value c.if-a-eq0.false (sym c.is_beside.ensures ∙ c.if-is_beside.false) c.go_towards_on_current_ground.ensures.actors)
