use Rattle.std.proofs.Common.{rules, arith, sym, ◌∙◌}
use Rattle.match_serve.proofs.LineLemmas.{names_it}
use Rattle.match_serve.proofs.console.kicked_by.Goals as goal

pub returns-then-is_kick-clause-names : goal.returns-then-is_kick-clause-names
returns-then-is_kick-clause-names c = λ d below.
    names_it c.loop-c.c c.args.line.now (search rules) (sym c.is_kick.ensures ∙ c.if-is_kick.true) d (let few = c.requires in omega arith)
