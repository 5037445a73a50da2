use Rattle.std.proofs.Common.{◌≤◌, ◌∙◌, sym, add-one, arith, length}
use Rattle.sync_hash.proofs.HeaderLemmas.{client_more, clients_end}
use Rattle.sync_hash.proofs.header.write_clients.Goals as goal

-- One more client goes on with its cash and its flag.
pub loop-c-preserved : goal.loop-c-preserved
loop-c-preserved c =
    let more =
    client_more c.loop-c.state c.loop-c.c c.args.head.now.cash c.args.head.now.gone c.get.result c.get-in-loop-c.result c.get.ensures c.get-in-loop-c.ensures in
    rw (add-one, c.write_u8.ensures, c.byte_of.ensures, c.write_u32.ensures) (more ∙ c.loop-c.invariant)

-- After the last client nothing is left.
pub returns : goal.returns
returns c =
    let all : length c.args.head.now.cash ≤ c.loop-c.c = omega arith in
    sym (clients_end c.loop-c.state c.loop-c.c c.args.head.now.cash c.args.head.now.gone all) ∙ c.loop-c.invariant
