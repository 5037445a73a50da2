-- What is written and the bytes of the clients that are left are the bytes of all.
use Rattle.std.proofs.Common.{◌≡◌, ◌++◌, drop}
use Rattle.std.specs.List.{flat_map, zip}
use Rattle.sync_hash.specs.HashedBytes.{client_bytes, clients_bytes}
use Rattle.game_save.proofs.save_writing.append_clients.Given as goal

abbrev pub invariant-loop-client : goal.invariant-loop-client
invariant-loop-client l =
    l.out.items ++ flat_map client_bytes (drop l.client (zip l.head.cash l.head.gone))
    ≡ l.fn.out.items ++ clients_bytes l.head
