use Rattle.std.proofs.Common.{[]}
use Rattle.frame_table.specs.Calls.{view_of}
use Rattle.match_net.proofs.RoundLemmas.{after_next, ends_if_all}
use Rattle.match_net.proofs.sending.send_turn.Goals as goal

pub returns-in-Ok-true-clause-sends : goal.returns-in-Ok-true-clause-sends
returns-in-Ok-true-clause-sends g c =
    λ old before sending. after_next _ _ [] old _ _ before (view_of c.args.pass.now) (view_of c.send_next.new.pass) c.args.counts.now _ _ c.requires.client c.requires.client sending c.in-Ok-true.ensures.sends

pub returns-in-Ok-false-clause-sends : goal.returns-in-Ok-false-clause-sends
returns-in-Ok-false-clause-sends g c =
    λ old before sending.
    ends_if_all 0 [] old _ before (view_of c.send_next.new.pass) c.args.counts.now c.args.c c.send_next.new.count _
    (after_next _ _ [] old _ _ before (view_of c.args.pass.now) (view_of c.send_next.new.pass) c.args.counts.now _ _ c.requires.client c.requires.client sending c.in-Ok-false.ensures.sends)
    c.end_if_all.ensures

pub returns-in-Err-clause-sends : goal.returns-in-Err-clause-sends
returns-in-Err-clause-sends g c =
    λ old before sending. after_next _ _ [] old _ _ before (view_of c.args.pass.now) (view_of c.send_next.new.pass) c.args.counts.now _ _ c.requires.client c.requires.client sending c.in-Err.ensures.sends
