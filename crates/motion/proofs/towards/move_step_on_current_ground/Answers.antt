use Rattle.std.proofs.Common.{◌≡◌, ◌≢◌, refl, sym, ◌∙◌}
use Rattle.world_units.specs.Angles.{dir_angle_of}
use Rattle.game_model.specs.Grid.{IsOn}
use Rattle.game_model.specs.Kinds.{kind_of}
use Rattle.game_model.specs.Setup.{setup_in}
use Rattle.game_model.proofs.FoundLemmas.{found_id}
use Rattle.motion.proofs.ChangeLemmas.{found_on}
use Rattle.motion.specs.Ground.{built_in}
use Rattle.motion.proofs.StepCases.{stepped, turns, faces, entered_on_table}
use Rattle.motion.proofs.towards.move_step_on_current_ground.Goals as goal

pub best_dir_on_current_ground-requires-clause-from : goal.best_dir_on_current_ground-requires-clause-from
best_dir_on_current_ground-requires-clause-from c =
    let on : IsOn c.args.t.now.width c.args.t.now.height c.in-Some.a.now.cell = found_on c.args.t.now c.args.id c.in-Some.a.now c.len-on_map.ensures.list c.in-Some.ensures in
    let sizes = c.requires.fits.routes.sizes in
    rw (sizes.wide, sizes.high, ← c.requires.fits.wide, ← c.requires.fits.high) on

pub returns-in_default-best_dir_on_current_ground-clause-moved : goal.returns-in_default-best_dir_on_current_ground-clause-moved
returns-in_default-best_dir_on_current_ground-clause-moved c =
    let step = stepped (setup_in c.args.g.now) (built_in c.args.g.now) c.args.t.now.actors c.args.id c.args.goal c.args.waits c.in-Some.a.now c.costs_of-costs.result _ c.in-Some.ensures c.costs_of-costs.ensures.value (c.in_default-best_dir_on_current_ground.ensures.value c.args.g.now.map.now (built_in c.args.g.now) c.requires.fits.routes) in
    rw step (record { actors = refl; answer = refl })

pub returns-then-units-clause-moved : goal.returns-then-units-clause-moved
returns-then-units-clause-moved c =
    let a = c.in-Some.a.now in
    let kind = kind_of c.args.g.now.rules.now a.kind in
    let step = stepped (setup_in c.args.g.now) (built_in c.args.g.now) c.args.t.now.actors c.args.id c.args.goal c.args.waits a c.costs_of-costs.result _ c.in-Some.ensures c.costs_of-costs.ensures.value (c.in-Some-best_dir_on_current_ground.ensures.value c.args.g.now.map.now (built_in c.args.g.now) c.requires.fits.routes) in
    let differs : a.body.facing ≢ dir_angle_of c.in-Some-best_dir_on_current_ground.d = λ same. c.if-units.true (c.units.ensures.value ∙ same ∙ sym (c.units-2.ensures.value ∙ c.dir_angle.ensures)) in
    rw step (turns c.args.t.now c.turn.new.t kind a c.args.waits c.in-Some-best_dir_on_current_ground.d differs (c.turn.ensures a (sym c.in-Some.ensures)))

pub enter-requires-clause-on : goal.enter-requires-clause-on
enter-requires-clause-on c =
    entered_on_table c.args.g.now.map.now (built_in c.args.g.now) c.args.t.now c.args.r.now c.costs_of-costs.result c.args.goal c.in-Some.a.now.cell c.in-Some-step.next c.in-Some-best_dir_on_current_ground.d c.requires.fits c.in-Some-best_dir_on_current_ground.ensures.best c.in-Some-step.ensures.value

pub returns-in-Some-step-clause-moved : goal.returns-in-Some-step-clause-moved
returns-in-Some-step-clause-moved c =
    let a = c.in-Some.a.now in
    let kind = kind_of c.args.g.now.rules.now a.kind in
    let step = stepped (setup_in c.args.g.now) (built_in c.args.g.now) c.args.t.now.actors c.args.id c.args.goal c.args.waits a c.costs_of-costs.result _ c.in-Some.ensures c.costs_of-costs.ensures.value (c.in-Some-best_dir_on_current_ground.ensures.value c.args.g.now.map.now (built_in c.args.g.now) c.requires.fits.routes) in
    let same : a.body.facing ≡ dir_angle_of c.in-Some-best_dir_on_current_ground.d = sym c.units.ensures.value ∙ c.if-units.false ∙ c.units-2.ensures.value ∙ c.dir_angle.ensures in
    rw step (faces c.args.t.now c.enter.new.t kind a c.args.id c.args.waits c.in-Some-best_dir_on_current_ground.d c.in-Some-step.next c.enter.result same c.in-Some-step.ensures.value (found_id c.args.t.now.actors c.args.id a (sym c.in-Some.ensures)) (c.enter.ensures a (sym c.in-Some.ensures)))
