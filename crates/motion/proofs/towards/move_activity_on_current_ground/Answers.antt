use Rattle.std.proofs.Common.{sym, ◌∙◌}
use Rattle.game_model.specs.Setup.{setup_in}
use Rattle.motion.specs.Ground.{built_in}
use Rattle.motion.proofs.StepCases.{move_ends, move_goes}
use Rattle.motion.proofs.towards.move_activity_on_current_ground.Goals as goal

pub returns-then-eq-clause-actors : goal.returns-then-eq-clause-actors
returns-then-eq-clause-actors c =
    move_ends (setup_in c.args.g.now) (built_in c.args.g.now) c.args.t.now c.pop_head.new.t c.args.id c.args.goal c.args.waits c.in-Some.a.now c.in-Some.ensures (sym c.eq.ensures ∙ c.if-eq.true) c.pop_head.ensures

pub returns-else-eq-clause-actors : goal.returns-else-eq-clause-actors
returns-else-eq-clause-actors c =
    move_goes (setup_in c.args.g.now) (built_in c.args.g.now) c.args.t.now c.go_towards_on_current_ground.new.t c.args.id c.args.goal c.args.waits c.in-Some.a.now c.in-Some.ensures (sym c.eq.ensures ∙ c.if-eq.false) c.go_towards_on_current_ground.ensures.actors
