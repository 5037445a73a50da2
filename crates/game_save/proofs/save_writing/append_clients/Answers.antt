use Rattle.std.proofs.Common.{◌≤◌, ◌∙◌, sym, arith, length}
use Rattle.game_save.proofs.WritingLemmas.{client_written, clients_written}
use Rattle.game_save.proofs.save_writing.append_clients.Goals as goal

pub loop-client-preserved : goal.loop-client-preserved
loop-client-preserved c =
    rw (c.in_ok-append_byte.ensures, c.byte_of.ensures, c.in_ok-write_u32.ensures.ok)
    (client_written c.loop-client.out.items c.loop-client.client c.args.head.now.cash
    c.args.head.now.gone c.get.result c.get-in-loop-client.result c.get.ensures
    c.get-in-loop-client.ensures
    ∙ c.loop-client.invariant)

pub returns : goal.returns
returns c =
    let all : length c.args.head.now.cash ≤ c.loop-client.client = omega arith in
    sym (clients_written c.loop-client.out.items c.loop-client.client c.args.head.now.cash
    c.args.head.now.gone all)
    ∙ c.loop-client.invariant
