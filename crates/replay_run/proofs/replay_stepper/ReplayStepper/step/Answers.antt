use Rattle.std.proofs.Common.{ap, subst, sym, ◌≡◌, ◌∷◌, ◌∙◌, [], false, true, Bool}
use Rattle.replay_file.specs.declared.part.Part.TheVariants.{Frame}
use Rattle.replay_run.specs.Passing.{hash_by}
use Rattle.replay_run.specs.Rerun.{rerun_over}
use Rattle.replay_run.specs.Stepping.{has_frame, stepped, stepped_by, with_frame}
use Rattle.replay_run.proofs.SteppingLemmas.{fits_on, state_with, steps_from, steps_on}
use Rattle.replay_run.proofs.replay_stepper.ReplayStepper.step.Goals as goal

pub invariant_of-self : goal.invariant_of-self
invariant_of-self g c =
    let old = c.self.inside in
    let read = c.next_frame-self-inside in
    let hash = hash_by g.S.Sim.hash_of g.S.FirstHash.first_hash_of old.rest.replay.version in
    let left : with_frame old.has_next old.next old.rest.left ≡ Frame old.next ∷ old.rest.left =
    ap (λ (b : Bool). with_frame b old.next old.rest.left) c.if-self.true in
    fits_on g.S.Sim.clients_of g.S.Sim.steps g.S.Sim.after hash
    (state_with old.rest.replay (with_frame old.has_next old.next old.rest.left) old.so_far)
    (state_with read.new.rest.replay (with_frame read.result read.new.frame read.new.rest.left)
    read.new.so_far)
    c.pass.new.self old.next old.rest.left c.self.invariant left c.pass.ensures.value
    read.ensures.left read.ensures.compared c.pass.ensures.clients
    (c.pass.ensures.steps c.self.invariant.made)

pub returns-then-self-clause-step : goal.returns-then-self-clause-step
returns-then-self-clause-step g c =
    let old = c.self.inside in
    let read = c.next_frame-self-inside in
    let hash = hash_by g.S.Sim.hash_of g.S.FirstHash.first_hash_of old.rest.replay.version in
    let new = state_with read.new.rest.replay
    (with_frame read.result read.new.frame read.new.rest.left) read.new.so_far in
    let left : with_frame old.has_next old.next old.rest.left ≡ Frame old.next ∷ old.rest.left =
    ap (λ (b : Bool). with_frame b old.next old.rest.left) c.if-self.true in
    subst (λ s. new ≡ stepped g.S.Sim.after
    (hash_by g.S.Sim.hash_of g.S.FirstHash.first_hash_of s.replay.version) s) c.self.view_is
    (steps_on g.S.Sim.after hash
    (state_with old.rest.replay (with_frame old.has_next old.next old.rest.left) old.so_far) new
    c.pass.new.self old.next old.rest.left left c.pass.ensures.value read.ensures.replay
    read.ensures.left read.ensures.compared)

pub returns-then-self-clause-gives : goal.returns-then-self-clause-gives
returns-then-self-clause-gives g c = λ start r n is few.
    let old = c.self.inside in
    let read = c.next_frame-self-inside in
    let hash = hash_by g.S.Sim.hash_of g.S.FirstHash.first_hash_of old.rest.replay.version in
    let new = state_with read.new.rest.replay
    (with_frame read.result read.new.frame read.new.rest.left) read.new.so_far in
    let left : with_frame old.has_next old.next old.rest.left ≡ Frame old.next ∷ old.rest.left =
    ap (λ (b : Bool). with_frame b old.next old.rest.left) c.if-self.true in
    steps_from
    (rerun_over g.S.Sim.after g.S.Sim.hash_of g.S.FirstHash.first_hash_of g.S.Sim.summary_of start)
    r n true
    (state_with old.rest.replay (with_frame old.has_next old.next old.rest.left) old.so_far)
    new (c.self.view_is ∙ is) few
    (steps_on g.S.Sim.after hash
    (state_with old.rest.replay (with_frame old.has_next old.next old.rest.left) old.so_far) new
    c.pass.new.self old.next old.rest.left left c.pass.ensures.value read.ensures.replay
    read.ensures.left read.ensures.compared)
    (sym (ap has_frame left))

pub returns-else-self-clause-gives : goal.returns-else-self-clause-gives
returns-else-self-clause-gives g c = λ start r n is few.
    let old = c.self.inside in
    let hash = hash_by g.S.Sim.hash_of g.S.FirstHash.first_hash_of
    c.args.self.now.replay.version in
    let left : c.args.self.now.left ≡ [] =
    ap (λ s. s.left) (sym c.self.view_is)
    ∙ ap (λ (b : Bool). with_frame b old.next old.rest.left) c.if-self.false in
    steps_from
    (rerun_over g.S.Sim.after g.S.Sim.hash_of g.S.FirstHash.first_hash_of g.S.Sim.summary_of start)
    r n false c.args.self.now c.args.self.now is few
    (sym (ap (stepped_by g.S.Sim.after hash c.args.self.now) left)) (sym (ap has_frame left))
