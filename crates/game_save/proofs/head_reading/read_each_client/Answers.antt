use Rattle.std.proofs.Common.{◌≤◌, ◌∙◌, arith}
use Rattle.std.proofs.lemmas.List.{length-set}
use Rattle.std.proofs.lemmas.Result.{err_from_is_err_and}
use Rattle.game_model.specs.declared.limits.TheConstants.{MAX_CASH}
use Rattle.game_save.proofs.ClientLemmas.{all_more, bad_cash, bad_flag, client_step, clients_end}
use Rattle.game_save.proofs.ClientLemmas.{first_of}
use Rattle.game_save.proofs.head_reading.read_each_client.Goals as goal

pub returns-in_err-cash-clause-reads : goal.returns-in_err-cash-clause-reads
returns-in_err-cash-clause-reads c =
    let p = err_from_is_err_and c.from_residual.result c.from_residual.ensures.1 in
    rw (p.1, p.2)
    (bad_cash (first_of c.loop-client.client c.loop-client.clients) c.args.count
    c.loop-client.client c.loop-client.c _ _ c.loop-client-test.true c.in_err-cash.ensures.reads
    c.loop-client.invariant.rest)

pub returns-in_err-gone-clause-reads : goal.returns-in_err-gone-clause-reads
returns-in_err-gone-clause-reads c =
    let p =
    err_from_is_err_and c.from_residual-in_err-gone.result c.from_residual-in_err-gone.ensures.1 in
    rw (p.1, p.2)
    (bad_flag (first_of c.loop-client.client c.loop-client.clients) c.args.count
    c.loop-client.client c.loop-client.c c.read_cash.new.c c.in_ok-cash.cash _ _
    c.loop-client-test.true c.in_ok-cash.ensures.reads c.in_err-gone.ensures
    c.loop-client.invariant.rest)

pub loop-client-preserved : goal.loop-client-preserved
loop-client-preserved c =
    let cash = c.loop-client.clients.cash in
    let gone = c.loop-client.clients.gone in
    let i = c.loop-client.client in
    rw (c.set.ensures, c.set-in-loop-client.ensures) (
    record {
      rest =
          client_step c.loop-client.clients c.args.count i c.loop-client.c c.read_cash.new.c
          c.read_gone.new.c c.in_ok-cash.cash c.in_ok-gone.gone _ c.loop-client-test.true
          c.loop-client.invariant.many c.loop-client.invariant.flags c.in_ok-cash.ensures.reads
          c.in_ok-gone.ensures c.loop-client.invariant.rest;
      many = length-set cash i c.in_ok-cash.cash ∙ c.loop-client.invariant.many;
      flags = length-set gone i c.in_ok-gone.gone ∙ c.loop-client.invariant.flags;
      most =
          all_more (λ amount. amount ≤ MAX_CASH) cash i c.in_ok-cash.cash
          (omega (arith, c.loop-client.invariant.many, c.loop-client-test.true))
          c.loop-client.invariant.most c.in_ok-cash.ensures.most;
    }
    )

pub returns-clause-reads : goal.returns-clause-reads
returns-clause-reads c =
    clients_end c.loop-client.clients c.args.count c.loop-client.client c.loop-client.c _
    c.loop-client-test.false c.loop-client.invariant.many c.loop-client.invariant.flags
    c.loop-client.invariant.rest
