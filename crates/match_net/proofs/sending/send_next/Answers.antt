use Rattle.frame_table.specs.Calls.{view_of}
use Rattle.match_net.proofs.SendingLemmas.{sends_next, sends_last}
use Rattle.match_net.proofs.sending.send_next.Goals as goal

pub returns-in-None-clause-sends : goal.returns-in-None-clause-sends
returns-in-None-clause-sends g c =
    let seen = c.seen-seen.ensures in
    sends_next _ _ _ (view_of c.args.pass.now) (view_of c.seen-seen.new.pass) _ _ _ _ (seen.pass.held c.args.c) seen.others seen.part seen.known
    c.in-Some.ensures c.in-None.ensures.sends

pub returns-in-Some-send_entry-clause-sends : goal.returns-in-Some-send_entry-clause-sends
returns-in-Some-send_entry-clause-sends g c =
    let seen = c.seen-seen.ensures in
    sends_last _ _ _ (view_of c.args.pass.now) (view_of c.seen-seen.new.pass) _ _ _ _ c.in-Some-send_entry.end (seen.pass.held c.args.c) seen.others seen.part seen.known
    c.in-Some.ensures c.in-Some-send_entry.ensures.sends
