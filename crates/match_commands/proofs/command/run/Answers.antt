use Rattle.std.proofs.Common.{rules}
use Rattle.match_commands.specs.TopCalls.{returning}
use Rattle.match_commands.proofs.KeptLemmas.{memory_keeps, named_keeps, refused_keeps}
use Rattle.match_commands.proofs.RunLemmas.{named_runs}
use Rattle.match_commands.proofs.command.run.Goals as goal

-- The words name a request.
pub returns-in-Ok-clause-runs : goal.returns-in-Ok-clause-runs
returns-in-Ok-clause-runs g c = named_runs returning _ _ _ _ _ c.in-Ok.ensures.request c.run_request.ensures.runs

pub returns-in-Ok-clause-keeps : goal.returns-in-Ok-clause-keeps
returns-in-Ok-clause-keeps g c = named_keeps returning _ _ _ _ c.in-Ok.ensures.request c.run_request.ensures.keeps

pub returns-in-Err-NoMemory-clause-keeps : goal.returns-in-Err-NoMemory-clause-keeps
returns-in-Err-NoMemory-clause-keeps g c = memory_keeps _ _

-- They name none.
pub returns-in-Err-Refused-clause-keeps : goal.returns-in-Err-Refused-clause-keeps
returns-in-Err-Refused-clause-keeps g c =
    refused_keeps returning _ _ _ (c.read_arguments.ensures.refused (search rules))
