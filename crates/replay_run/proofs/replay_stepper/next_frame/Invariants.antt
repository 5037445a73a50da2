-- Marks were compared.
use Rattle.std.proofs.Common.{◌≡◌, length}
use Rattle.replay_run.specs.Passing.{hash_by}
use Rattle.replay_run.specs.Stepping.{from_frame, past_marks}
use Rattle.replay_run.proofs.replay_stepper.next_frame.Given as goal

abbrev pub invariant-loop-kind : goal.invariant-loop-kind
invariant-loop-kind g l =
    (from_frame 0 l.rest.left ≡ from_frame 0 l.initial.rest.left)
    × (l.rest.replay ≡ l.initial.rest.replay)
    × (past_marks (hash_by g.S.Sim.hash_of g.S.FirstHash.first_hash_of l.version) l.so_far l.rest.left
    ≡ past_marks (hash_by g.S.Sim.hash_of g.S.FirstHash.first_hash_of l.version)
    l.initial.so_far l.initial.rest.left)

abbrev pub decreases-loop-kind : goal.decreases-loop-kind
decreases-loop-kind g l = length l.rest.left
