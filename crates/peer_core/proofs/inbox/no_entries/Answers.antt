use Rattle.std.proofs.Common.{ap, ◌∙◌}
use Rattle.peer_core.specs.Entries.{all_arrived}
use Rattle.peer_core.proofs.EntriesLemmas.{none_reached}
use Rattle.peer_core.proofs.inbox.no_entries.Goals as goal

pub returns-clause-none : goal.returns-clause-none
returns-clause-none c = ap (all_arrived 0) c.loop-client.invariant
    ∙ none_reached 0 c.loop-client._client
