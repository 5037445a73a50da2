use Rattle.std.proofs.Common.{◌≡◌, Some, sym, ◌∙◌}
use Rattle.game_model.specs.Grid.{IsOn}
use Rattle.game_model.specs.Setup.{setup_in}
use Rattle.game_model.proofs.FoundLemmas.{found_id}
use Rattle.motion.proofs.ChangeLemmas.{found_on}
use Rattle.motion.specs.Ground.{built_in}
use Rattle.combat.proofs.AttackCases.{attack_ends, attack_fires, attack_waits, attack_goes, attack_stays}
use Rattle.combat.proofs.attack.attack.Goals as goal

pub returns-in_default-living-clause-fought : goal.returns-in_default-living-clause-fought
returns-in_default-living-clause-fought c a found =
    let same : Some a ≡ Some c.in-Some.a.now = sym found ∙ sym c.in-Some.ensures in
    let is : a ≡ c.in-Some.a.now = cc in
    rw is (attack_ends (setup_in c.args.g.now) (built_in c.args.g.now) c.args.dice.now c.args.t.now c.args.id c.args.target c.args.waits c.in-Some.a.now c.in-Some.ensures c.pop_head.new.t c.in_default-living.ensures.living c.pop_head.ensures)

pub go_towards_on_current_ground-requires-clause-goal : goal.go_towards_on_current_ground-requires-clause-goal
go_towards_on_current_ground-requires-clause-goal c =
    let on : IsOn c.args.t.now.width c.args.t.now.height c.in-Some-living.aim.now.cell = found_on c.args.t.now c.args.target c.in-Some-living.aim.now c.len-on_map.ensures.list c.in-Some-living.ensures.found in
    rw (← c.requires.fits.wide, ← c.requires.fits.high) on

pub returns-then-reload-eq0-clause-fought : goal.returns-then-reload-eq0-clause-fought
returns-then-reload-eq0-clause-fought c a found =
    let same : Some a ≡ Some c.in-Some.a.now = sym found ∙ sym c.in-Some.ensures in
    let is : a ≡ c.in-Some.a.now = cc in
    let named = found_id c.args.t.now.actors c.args.target c.in-Some-living.aim.now (sym c.in-Some-living.ensures.found) in
    rw is (attack_fires (setup_in c.args.g.now) (built_in c.args.g.now) c.args.dice.now c.args.t.now c.args.id c.args.target c.args.waits c.in-Some.a.now c.in-Some.ensures c.in-Some-living.aim.now c.in-Some-living.ensures.living named c.fire.new.t c.fire.new.dice (sym c.is_in_range.ensures ∙ c.if-is_in_range.true) c.if-reload-eq0.true c.fire.ensures.actors c.fire.ensures.dice)

pub returns-else-reload-eq0-clause-fought : goal.returns-else-reload-eq0-clause-fought
returns-else-reload-eq0-clause-fought c a found =
    let same : Some a ≡ Some c.in-Some.a.now = sym found ∙ sym c.in-Some.ensures in
    let is : a ≡ c.in-Some.a.now = cc in
    let named = found_id c.args.t.now.actors c.args.target c.in-Some-living.aim.now (sym c.in-Some-living.ensures.found) in
    rw is (attack_waits (setup_in c.args.g.now) (built_in c.args.g.now) c.args.dice.now c.args.t.now c.args.id c.args.target c.args.waits c.in-Some.a.now c.in-Some.ensures c.in-Some-living.aim.now c.in-Some-living.ensures.living named (sym c.is_in_range.ensures ∙ c.if-is_in_range.true) c.if-reload-eq0.false)

pub returns-then-moves-clause-fought : goal.returns-then-moves-clause-fought
returns-then-moves-clause-fought c a found =
    let same : Some a ≡ Some c.in-Some.a.now = sym found ∙ sym c.in-Some.ensures in
    let is : a ≡ c.in-Some.a.now = cc in
    let named = found_id c.args.t.now.actors c.args.target c.in-Some-living.aim.now (sym c.in-Some-living.ensures.found) in
    rw is (attack_goes (setup_in c.args.g.now) (built_in c.args.g.now) c.args.dice.now c.args.t.now c.args.id c.args.target c.args.waits c.in-Some.a.now c.in-Some.ensures c.in-Some-living.aim.now c.in-Some-living.ensures.living named c.go_towards_on_current_ground.new.t (sym c.is_in_range.ensures ∙ c.if-is_in_range.false) (sym c.moves.ensures ∙ c.if-moves.true) c.go_towards_on_current_ground.ensures.actors)

pub returns-else-moves-clause-fought : goal.returns-else-moves-clause-fought
returns-else-moves-clause-fought c a found =
    let same : Some a ≡ Some c.in-Some.a.now = sym found ∙ sym c.in-Some.ensures in
    let is : a ≡ c.in-Some.a.now = cc in
    let named = found_id c.args.t.now.actors c.args.target c.in-Some-living.aim.now (sym c.in-Some-living.ensures.found) in
    rw is (attack_stays (setup_in c.args.g.now) (built_in c.args.g.now) c.args.dice.now c.args.t.now c.args.id c.args.target c.args.waits c.in-Some.a.now c.in-Some.ensures c.in-Some-living.aim.now c.in-Some-living.ensures.living named c.pop_head-else-moves.new.t (sym c.is_in_range.ensures ∙ c.if-is_in_range.false) (sym c.moves.ensures ∙ c.if-moves.false) c.pop_head-else-moves.ensures)
