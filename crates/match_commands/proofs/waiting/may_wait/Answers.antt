use Rattle.std.proofs.Common.{string_bytes}
use Rattle.match_commands.proofs.CommandLemmas.{second_tells}
use Rattle.match_commands.proofs.waiting.may_wait.Goals as goal

-- The second word of a request is its command.
pub returns-clause-request : goal.returns-clause-request
returns-clause-request c =
    second_tells string_bytes c.args.words.now c.is_second_waiting.result c.is_second_waiting.ensures
