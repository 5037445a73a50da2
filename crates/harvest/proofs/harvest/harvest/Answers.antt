use Rattle.std.proofs.Common.{◌≡◌, Some, sym, ◌∙◌}
use Rattle.game_model.specs.Setup.{setup_in}
use Rattle.motion.specs.Ground.{built_in}
use Rattle.harvest.proofs.StepCases.{harvest_full, harvest_turns, harvest_loads, harvest_goes}
use Rattle.harvest.proofs.harvest.harvest.Goals as goal

pub returns-then-is_full-clause-harvested : goal.returns-then-is_full-clause-harvested
returns-then-is_full-clause-harvested c cash a found =
    let same : Some a ≡ Some c.in-Some.a.now = sym found ∙ sym c.in-Some.ensures in
    let is : a ≡ c.in-Some.a.now = cc in
    rw is (harvest_full c.args.t.now c.set_head.new.t c.args.ore.now cash c.args.id c.in-Some.a.now (sym c.in-Some.ensures) (setup_in c.args.g.now) (built_in c.args.g.now) c.args.cell c.args.timer c.args.waits (sym c.is_full.ensures.value ∙ c.if-is_full.true) c.set_head.ensures)

pub returns-then-not-has_ore-clause-harvested : goal.returns-then-not-has_ore-clause-harvested
returns-then-not-has_ore-clause-harvested c cash a found =
    let same : Some a ≡ Some c.in-Some.a.now = sym found ∙ sym c.in-Some.ensures in
    let is : a ≡ c.in-Some.a.now = cc in
    rw is (harvest_turns c.args.t.now c.search.new.t c.args.ore.now cash c.args.id c.in-Some.a.now (sym c.in-Some.ensures) (setup_in c.args.g.now) (built_in c.args.g.now) c.args.cell c.args.timer c.args.waits (sym c.is_full.ensures.value ∙ c.if-is_full.false) (sym c.has_ore.ensures ∙ c.if-not-has_ore.true) (c.search.ensures cash c.in-Some.a.now (sym c.in-Some.ensures)))

pub returns-then-eq-clause-harvested : goal.returns-then-eq-clause-harvested
returns-then-eq-clause-harvested c cash a found =
    let same : Some a ≡ Some c.in-Some.a.now = sym found ∙ sym c.in-Some.ensures in
    let is : a ≡ c.in-Some.a.now = cc in
    rw is (harvest_loads c.args.t.now c.load_turn.new.t c.args.ore.now cash c.args.id c.in-Some.a.now (sym c.in-Some.ensures) (setup_in c.args.g.now) (built_in c.args.g.now) c.args.cell c.args.timer c.args.waits c.load_turn.new.ore (sym c.is_full.ensures.value ∙ c.if-is_full.false) (sym c.has_ore.ensures ∙ c.if-not-has_ore.false) (sym c.eq.ensures ∙ c.if-eq.true) (c.load_turn.ensures.loaded cash c.in-Some.a.now (sym c.in-Some.ensures)))

pub returns-else-eq-clause-harvested : goal.returns-else-eq-clause-harvested
returns-else-eq-clause-harvested c cash a found =
    let same : Some a ≡ Some c.in-Some.a.now = sym found ∙ sym c.in-Some.ensures in
    let is : a ≡ c.in-Some.a.now = cc in
    rw is (harvest_goes c.args.t.now c.go_towards_on_current_ground.new.t c.args.ore.now cash c.args.id c.in-Some.a.now (sym c.in-Some.ensures) (setup_in c.args.g.now) (built_in c.args.g.now) c.args.cell c.args.timer c.args.waits (sym c.is_full.ensures.value ∙ c.if-is_full.false) (sym c.has_ore.ensures ∙ c.if-not-has_ore.false) (sym c.eq.ensures ∙ c.if-eq.false) c.go_towards_on_current_ground.ensures.actors)
