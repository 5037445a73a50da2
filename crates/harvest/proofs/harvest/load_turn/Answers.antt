use Rattle.std.proofs.Common.{◌≡◌, Some, sym, ◌∙◌}
use Rattle.game_model.specs.Kinds.{kind_of}
use Rattle.harvest.proofs.StepCases.{loads, load_waits}
use Rattle.harvest.proofs.harvest.load_turn.Goals as goal

pub returns-then-is_loaded-clause-loaded : goal.returns-then-is_loaded-clause-loaded
returns-then-is_loaded-clause-loaded c cash a found =
    let same : Some a ≡ Some c.in-Some.a.now = sym found ∙ sym c.in-Some.ensures in
    let is : a ≡ c.in-Some.a.now = cc in
    rw is (loads c.args.t.now c.carry.new.t c.args.ore.now cash c.args.id c.in-Some.a.now (sym c.in-Some.ensures) (kind_of c.args.rules.now c.in-Some.a.now.kind) c.args.cell c.args.timer c.args.waits c.take_bale.new.ore c.len-ids_rise.ensures.list (sym c.is_loaded.ensures.value ∙ c.if-is_loaded.true) c.take_bale.ensures c.carry.ensures)

pub returns-else-is_loaded-clause-loaded : goal.returns-else-is_loaded-clause-loaded
returns-else-is_loaded-clause-loaded c cash a found =
    let same : Some a ≡ Some c.in-Some.a.now = sym found ∙ sym c.in-Some.ensures in
    let is : a ≡ c.in-Some.a.now = cc in
    rw is (load_waits c.args.t.now c.set_head.new.t c.args.ore.now cash c.args.id c.in-Some.a.now (sym c.in-Some.ensures) (kind_of c.args.rules.now c.in-Some.a.now.kind) c.args.cell c.args.timer c.args.waits (sym c.is_loaded.ensures.value ∙ c.if-is_loaded.false) c.set_head.ensures)
