use Rattle.drill_words.proofs.ScriptTextLemmas.{script_text-back}
use Rattle.drill_words.proofs.law.scripts_read_back.Goals as goal

pub returns : goal.returns
returns c = script_text-back
