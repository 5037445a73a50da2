use Rattle.match_net.proofs.ReadingLemmas.{handles_orders, handles_sync}
use Rattle.match_net.proofs.reading.handle_packet.Goals as goal

pub returns-in-Orders-clause-handles : goal.returns-in-Orders-clause-handles
returns-in-Orders-clause-handles g c =
    rw c.in-Orders.is (handles_orders _ _ _ _ _ _ _ c.put_orders.ensures.puts)

pub returns-in-Sync-clause-handles : goal.returns-in-Sync-clause-handles
returns-in-Sync-clause-handles g c = rw c.in-Sync.is (handles_sync _ _ _ _ _ _ _ c.push_report.ensures.means)
