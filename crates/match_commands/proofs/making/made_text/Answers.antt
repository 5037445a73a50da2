use Rattle.std.proofs.Common.{string_bytes, ◌∙◌}
use Rattle.drill.specs.MadeDrill.{made_drill_of}
use Rattle.match_commands.proofs.MadeLemmas.{made_is, on_ok}
use Rattle.match_commands.proofs.making.made_text.Goals as goal

pub returns : goal.returns
returns c =
    on_ok c.counted_text.result _ _
    (λ text. made_is c.args.maker.now c.in_ok-drill.drill (made_drill_of c.args.number) c.len.result c.as_str.result.now (string_bytes text)
    c.in_ok-drill.ensures c.len.ensures (c.as_str.ensures.value ∙ c.in_ok-closing.ensures))
    c.counted_text.ensures
