use Rattle.std.proofs.Common.{arith}
use Rattle.match_serve.proofs.SeatLemmas.{served, given_up}
use Rattle.match_serve.proofs.serving.serve_seat.Goals as goal

pub returns-in-Ok : goal.returns-in-Ok
returns-in-Ok g c =
    let done = c.serve_greeted.ensures in
    let greeted = c.in-Ok.ensures.greeted in
    served _ _ _ _ _ _ _ _ _ _ _ _ (omega arith, omega arith) c.requires greeted.0 greeted.1 done.reads done.sends done.told

pub returns-in-Err : goal.returns-in-Err
returns-in-Err g c =
    let done = c.give_up.ensures in
    let err = c.in-Err.ensures.err in
    given_up _ _ _ _ _ _ _ c.requires err.0 _ err.1 done.taken done.pass done.leaves done.reports done.sending done.told done.reader done.sender
