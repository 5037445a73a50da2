-- The clients so far were compared.
use Rattle.std.proofs.Common.{◌≡◌}
use Rattle.compare_command.specs.Found.{with_found}
use Rattle.compare_command.specs.Saves.{client_differences, clients_differences}
use Rattle.compare_command.proofs.EachLemmas.{rest_of}
use Rattle.compare_command.proofs.saves.compare_clients.Given as goal

abbrev pub invariant-loop-client : goal.invariant-loop-client
invariant-loop-client l =
    with_found l.found (rest_of (client_differences l.a l.b) l.count l.client)
    ≡ with_found l.initial.found (clients_differences l.a l.b)
