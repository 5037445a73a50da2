use Rattle.std.proofs.Common.{arith}
use Rattle.std.proofs.lemmas.Str.Pattern.{strip_prefix_char}
use Rattle.yaml_merge.proofs.StepSteps.{removal_done}
use Rattle.yaml_merge.proofs.steps.removal.Goals as goal

pub returns : goal.returns
returns c = removal_done c.args.key.now c.strip_prefix.result (strip_prefix_char 45 c.args.key.now c.strip_prefix.result c.strip_prefix.ensures.cases (omega arith))
