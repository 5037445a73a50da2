use Rattle.std.proofs.Common.{refl}
use Rattle.match_net.proofs.OpeningLemmas.{greeting_fails, greets, on_any, out_at_once}
use Rattle.match_net.proofs.playthrough.play_match_from.Goals as goal

pub returns-in_err-feeder-clause-err : goal.returns-in_err-feeder-clause-err
returns-in_err-feeder-clause-err g c = on_any _ (out_at_once _ _ _)

pub returns-in_err-write_up-clause-err : goal.returns-in_err-write_up-clause-err
returns-in_err-write_up-clause-err g c = on_any _ (out_at_once _ _ _)

pub returns-clause-ok : goal.returns-clause-ok
returns-clause-ok g c =
    greeting_fails _ _ _ _ c.deref.result.now _ _ _ _
    (greets _ _ _ _ c.deref.ensures.value c.in_ok-write_up.ensures.ok c.new-bytes.ensures.items)
    c.in-Err.ensures.prefix c.put.ensures.later (c.in-Err.ensures.failed refl) c.unwelcomed.ensures
