use Rattle.match_commands.proofs.WaitingLemmas.{named_waits, memory_waits}
use Rattle.match_commands.proofs.waiting.run_waiting.Goals as goal

-- The words name a request.
pub returns-in-Ok : goal.returns-in-Ok
returns-in-Ok g c = named_waits _ _ _ _ _ c.in-Ok.ensures.request c.run_request.ensures

-- Memory ran out before they were read.
pub returns-in-Err-NoMemory : goal.returns-in-Err-NoMemory
returns-in-Err-NoMemory g c = memory_waits _ _ _ _ _
