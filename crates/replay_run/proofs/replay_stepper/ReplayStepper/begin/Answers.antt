use Rattle.std.proofs.Common.{ap, ◌∙◌, None}
use Rattle.replay_file.specs.ReplayLeft.{ReplayLeft}
use Rattle.replay_run.specs.Passing.{hash_by}
use Rattle.replay_run.specs.Rerun.{rerun_over}
use Rattle.replay_run.specs.Stepping.{from_frame, past_marks, with_frame}
use Rattle.replay_run.proofs.SteppingLemmas.{begins_fit, begins_stepped, state_with}
use Rattle.replay_run.proofs.replay_stepper.ReplayStepper.begin.Goals as goal

pub invariant_of-result : goal.invariant_of-result
invariant_of-result g c =
    let read = c.next_frame-has_next in
    begins_fit g.S.Sim.clients_of g.S.Sim.steps c.args.world c.args.replay
    (state_with read.new.rest.replay (with_frame read.result read.new.frame read.new.rest.left)
    read.new.so_far)
    c.requires.valid c.requires.clients c.requires.fresh
    (read.ensures.left ∙ ap (λ (v : ReplayLeft). from_frame 0 v.left) c.over-rest.ensures)
    (ap (λ s. s.frames) read.ensures.compared)
    (ap (λ s. s.world) read.ensures.compared)

pub returns : goal.returns
returns g c =
    let read = c.next_frame-has_next in
    begins_stepped
    (rerun_over g.S.Sim.after g.S.Sim.hash_of g.S.FirstHash.first_hash_of g.S.Sim.summary_of
    c.args.world)
    c.args.replay
    (state_with read.new.rest.replay (with_frame read.result read.new.frame read.new.rest.left)
    read.new.so_far)
    (read.ensures.replay ∙ ap (λ (v : ReplayLeft). v.replay) c.over-rest.ensures)
    (read.ensures.left ∙ ap (λ (v : ReplayLeft). from_frame 0 v.left) c.over-rest.ensures)
    (read.ensures.compared
    ∙ ap (λ (v : ReplayLeft).
    past_marks (hash_by g.S.Sim.hash_of g.S.FirstHash.first_hash_of v.replay.version)
    (record { difference = None; frames = 0; world = c.args.world }) v.left) c.over-rest.ensures)
