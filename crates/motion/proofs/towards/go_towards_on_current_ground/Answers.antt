use Rattle.std.proofs.Common.{refl}
use Rattle.game_model.specs.World.{actor_of}
use Rattle.game_model.specs.Setup.{setup_in}
use Rattle.motion.specs.Ground.{built_in}
use Rattle.motion.proofs.StepCases.{gone_either}
use Rattle.motion.proofs.towards.go_towards_on_current_ground.Goals as goal

pub returns-clause-actors : goal.returns-clause-actors
returns-clause-actors c =
    let moved = rw c.waits_of.ensures at c.move_step_on_current_ground-moving.ensures.moved in
    gone_either (setup_in c.args.g.now) (built_in c.args.g.now) c.args.t.now c.move_step_on_current_ground-moving.new.t c.go_on.new.t c.args.id c.args.goal c.args.activity c.move_step_on_current_ground-moving.result (actor_of c.args.t.now.actors c.args.id) refl moved c.go_on.ensures
