use Rattle.compare_command.proofs.EachLemmas.{client_found}
use Rattle.compare_command.proofs.saves.compare_client.Goals as goal

pub returns : goal.returns
returns c =
    client_found c.compare_gone.result c.args.a.now c.args.b.now c.args.client _ _ _ _ _ _ _
    c.cash_of-cash.ensures c.cash_of-other_cash.ensures c.gone_of-gone.ensures
    c.gone_of-other_gone.ensures c.in_ok-compare_cash.ensures c.compare_gone.ensures
