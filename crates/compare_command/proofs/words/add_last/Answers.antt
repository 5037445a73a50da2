use Rattle.compare_command.proofs.WordLemmas.{last_added}
use Rattle.compare_command.proofs.words.add_last.Goals as goal

pub returns : goal.returns
returns c =
    last_added c.add_end_line.result _ _ _ c.args.count c.in_ok-writeln.ensures.bytes
    c.add_end_line.ensures.added
