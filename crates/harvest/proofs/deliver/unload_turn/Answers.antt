use Rattle.std.proofs.Common.{◌≡◌, Some, sym, ◌∙◌}
use Rattle.game_model.specs.Kinds.{kind_of}
use Rattle.harvest.proofs.StepCases.{unloads, unload_waits}
use Rattle.harvest.proofs.deliver.unload_turn.Goals as goal

pub returns-then-is_unloaded : goal.returns-then-is_unloaded
returns-then-is_unloaded c ore a found =
    let same : Some a ≡ Some c.in-Some.a.now = sym found ∙ sym c.in-Some.ensures in
    let is : a ≡ c.in-Some.a.now = cc in
    rw is (unloads c.args.t.now c.carry.new.t ore c.args.purse.now c.args.id c.in-Some.a.now (sym c.in-Some.ensures) (kind_of c.args.rules.now c.in-Some.a.now.kind) c.args.value c.args.home c.args.timer c.args.waits c.pay.new.purse c.len-ids_rise.ensures.list (sym c.is_unloaded.ensures.value ∙ c.if-is_unloaded.true) c.pay.ensures (rw c.saturating_sub-left.ensures at c.carry.ensures))

pub returns-else-is_unloaded : goal.returns-else-is_unloaded
returns-else-is_unloaded c ore a found =
    let same : Some a ≡ Some c.in-Some.a.now = sym found ∙ sym c.in-Some.ensures in
    let is : a ≡ c.in-Some.a.now = cc in
    rw is (unload_waits c.args.t.now c.set_head.new.t ore c.args.purse.now c.args.id c.in-Some.a.now (sym c.in-Some.ensures) (kind_of c.args.rules.now c.in-Some.a.now.kind) c.args.value c.args.home c.args.timer c.args.waits (sym c.is_unloaded.ensures.value ∙ c.if-is_unloaded.false) c.set_head.ensures)
