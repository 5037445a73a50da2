use Rattle.compare_command.specs.Lines.{line_of}
use Rattle.compare_command.proofs.words.add_only_first.Goals as goal

pub returns : goal.returns
unfolding line_of
returns c = c.writeln.ensures.bytes
