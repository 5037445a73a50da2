use Rattle.std.proofs.Common.{◌≡◌, Ok, Err, inr, arith}
use Rattle.std.proofs.lemmas.Result.{err_from_is_err_and}
use Rattle.drill_words.specs.Script.{play_on}
use Rattle.drill_words.proofs.ScriptLemmas.{read_none, read_more, read_fault, read_all, room_left, as_many}
use Rattle.drill_words.proofs.script_reading.read_plays.Goals as goal

pub loop-number-init : goal.loop-number-init
loop-number-init c = read_none _ _ _ c.in-Ok.ensures

pub push_lent-requires-clause-client : goal.push_lent-requires-clause-client
push_lent-requires-clause-client c =
    let many = as_many _ _ _ _ _ c.loop-number.invariant in
    let below = c.in_ok-client.ensures.below in
    omega arith

pub push_lent-requires-clause-room : goal.push_lent-requires-clause-room
push_lent-requires-clause-room c = room_left _ _ _ _ _ c.loop-number.invariant _ c.in_ok-client.ensures.room

-- The first line of those that are left has a fault.
pub returns-in_err-client-clause-plays : goal.returns-in_err-client-clause-plays
returns-in_err-client-clause-plays c =
    let p = err_from_is_err_and c.from_residual.result c.from_residual.ensures.1 in
    let read : play_on c.args.clients c.loop-number.before (record { number = c.in-Some.number; words = c.in-Some.cursor }) ≡ Err c.in_err-client.field-0.0 =
    c.in_err-client.ensures.line in
    rw (p.1, p.2) (inr (read_fault _ _ _ _ _ c.loop-number.invariant _ _ _ c.in-Some.ensures read))

-- It is one more play.
pub loop-number-preserved : goal.loop-number-preserved
loop-number-preserved c =
    let read : play_on c.args.clients c.loop-number.before (record { number = c.in-Some.number; words = c.in-Some.cursor }) ≡ Ok record { client = c.in_ok-client.client; orders = c.read_play_on.new.orders } =
    c.in_ok-client.ensures.line in
    read_more _ _ _ _ _ c.loop-number.invariant (record { client = c.in_ok-client.client; orders = c.read_play_on.new.orders }) _ _ _ c.in-Some.ensures read c.in_ok-client.ensures.below c.in_ok-client.ensures.room c.in-Ok-push_lent.ensures.ok

pub returns-clause-plays : goal.returns-clause-plays
returns-clause-plays c = read_all _ _ _ _ _ c.loop-number.invariant c.in_default-next.ensures

pub returns-clause-clients : goal.returns-clause-clients
returns-clause-clients c = as_many _ _ _ _ _ c.loop-number.invariant
