-- What the bytes of the clients that are left make of the number so far is what those of all make
-- of the first.
use Rattle.std.proofs.Common.{◌≡◌, drop}
use Rattle.std.specs.List.{zip, flat_map}
use Rattle.sync_hash.specs.Fnv.{fnv_from}
use Rattle.sync_hash.specs.HashedBytes.{client_bytes, clients_bytes}
use Rattle.sync_hash.proofs.header.write_clients.Given as goal

abbrev pub invariant-loop-c : goal.invariant-loop-c
invariant-loop-c l =
    fnv_from l.state (flat_map client_bytes (drop l.c (zip l.head.cash l.head.gone)))
    ≡ fnv_from l.initial.state (clients_bytes l.head)
