-- What is still read after the first clients is what all of the bytes give.
use Rattle.std.proofs.Common.{◌≡◌, ◌-◌, ◌≤◌, length, take}
use Rattle.std.specs.List.{All}
use Rattle.game_model.specs.declared.limits.TheConstants.{MAX_CASH}
use Rattle.game_save.specs.WorldReading.{clients_after, no_clients}
use Rattle.game_save.proofs.ClientLemmas.{first_of}
use Rattle.game_save.proofs.head_reading.read_each_client.Given as goal

abbrev pub invariant-loop-client : goal.invariant-loop-client
invariant-loop-client l =
    record {
      rest :
          clients_after (first_of l.client l.clients) (l.count - l.client) l.c
          ≡ clients_after no_clients l.count l.fn.c;
      many : length l.clients.cash ≡ l.count;
      flags : length l.clients.gone ≡ l.count;
      most : All (λ cash. cash ≤ MAX_CASH) (take l.client l.clients.cash);
    }
