use Rattle.std.proofs.Common.{rules, ap, sym, ◌∙◌, ◌+◌, ◌∷◌, drop}
use Rattle.world_text.proofs.PrintingLemmas.{item_at, none_left, prints_none, prints_whole}
use Rattle.worlds_command.proofs.LineLemmas.{next_kind, no_kinds}
use Rattle.worlds_command.proofs.setup_lines.print_kinds.Goals as goal

pub loop-number-init : goal.loop-number-init
loop-number-init g c = prints_none _ _

pub loop-number-preserved : goal.loop-number-preserved
loop-number-preserved g c =
    next_kind _ _ _ _ c.loop-number.number c.index-kinds-number.result _ _
    (item_at c.args.kinds.now c.loop-number.number c.index-kinds-number.result
    c.loop-number-test.true
    ∙ ap (λ kind. kind ∷ drop (c.loop-number.number + 1) c.args.kinds.now)
    (sym c.index-kinds-number.is))
    c.loop-number.invariant c.print_kind.ensures

pub returns : goal.returns
returns g c =
    prints_whole _ _ _ _
    (no_kinds c.loop-number.number
    (none_left c.args.kinds.now c.loop-number.number (search rules)))
    c.loop-number.invariant
