use Rattle.std.proofs.Common.{string_bytes}
use Rattle.drill_words.specs.Drill.{plain_of}
use Rattle.replay_commands.specs.Matches.{game_match}
use Rattle.match_commands.proofs.MadeLemmas.{closing_is, on_ok}
use Rattle.match_commands.proofs.making.closing_text.Goals as goal

pub returns : goal.returns
returns c =
    on_ok c.closing_lines.result _ _
    (λ text. closing_is (game_match c.args.maker.now (plain_of c.args.drill.now)) c.args.drill.now.events c.in_ok-left.left (string_bytes text) c.in_ok-left.ensures)
    c.closing_lines.ensures
