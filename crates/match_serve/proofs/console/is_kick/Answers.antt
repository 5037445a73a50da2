use Rattle.std.proofs.Common.{rules}
use Rattle.match_serve.proofs.LineLemmas.{kick_one, kick_two}
use Rattle.match_serve.proofs.console.is_kick.Goals as goal

pub returns-then-c-lt10 : goal.returns-then-c-lt10
returns-then-c-lt10 c =
    let line = kick_one c.args.c (search rules) in
    search rules

pub returns-else-c-lt10 : goal.returns-else-c-lt10
returns-else-c-lt10 c =
    let line = kick_two c.args.c (search rules) (search rules) in
    search rules
