use Rattle.std.proofs.Common.{rules}
use Rattle.host_standing.proofs.KickLemmas.{kick_one, kick_two}
use Rattle.host_standing.proofs.typed.is_kick.Goals as goal

pub returns-then-client-lt10 : goal.returns-then-client-lt10
returns-then-client-lt10 c =
    let line = kick_one c.args.client (search rules) in
    search rules

pub returns-else-client-lt10 : goal.returns-else-client-lt10
returns-else-client-lt10 c =
    let line = kick_two c.args.client (search rules) (search rules) in
    search rules
