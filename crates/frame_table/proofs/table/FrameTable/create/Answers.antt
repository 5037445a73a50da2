use Rattle.std.proofs.Common.{◌∙◌, ap, sym, arith, replicate, Some, [], ◌∷◌}
use Rattle.frame_core.specs.Column.{no_column}
use Rattle.frame_table.proofs.KeptPasses.{begins}
use Rattle.frame_table.proofs.Calls.{first_pass}
use Rattle.frame_table.proofs.table.FrameTable.create.Goals as goal

pub new-requires : goal.new-requires
new-requires c =
    begins c.args.plan 16 _ (let plan = c.requires.plan in let most = c.requires.most in omega arith)
    (c.in_ok-slots.ensures ∙ ap (λ k. replicate k (Some (no_column ∷ []))) (sym c.requires.plan))

pub returns-clause-pass : goal.returns-clause-pass
returns-clause-pass c =
    let made = c.in-Ok.ensures.ok in
    first_pass _ _ c.args.plan made.5 made.2 made.4
