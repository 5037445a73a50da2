use Rattle.std.proofs.Common.{refl}
use Rattle.tick_core.proofs.turn.is_waiting_at.Goals as goal

-- It lives.
pub returns-in-Some : goal.returns-in-Some
returns-in-Some c = λ waits. rw (← c.in-Some.ensures) (c.waits.ensures c.in-Some.a.now refl waits)
