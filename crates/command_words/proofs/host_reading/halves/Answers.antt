use Rattle.std.proofs.Common.{arith}
use Rattle.rule_values.proofs.PartsLemmas.{cut_parts}
use Rattle.command_words.proofs.host_reading.halves.Goals as goal

pub returns : goal.returns
returns c = cut_parts 45 c.args.text.now _ c.split_once.ensures.cases (omega arith)
