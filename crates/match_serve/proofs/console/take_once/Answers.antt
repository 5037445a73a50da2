use Rattle.std.proofs.Common.{sym, ◌∙◌}
use Rattle.match_serve.proofs.ConsoleLemmas.{takes_line, takes_part, took_so}
use Rattle.match_serve.proofs.console.take_once.Goals as goal

pub returns-then-ended-clause-takes : goal.returns-then-ended-clause-takes
returns-then-ended-clause-takes g c = λ first start far.
    takes_line _ _ first _ _ start _ _ _ c.args.kicks.now _ _ _
    (took_so _ _ c.take.new.into c.in-Ok.count c.in-Ok.ensures.left c.in-Ok.ensures.moved) c.take.ensures.later
    c.have_all_left-over.ensures.pass c.have_all_left-over.ensures.learns c.have_all_left-over.ensures.sees c.read_bytes-ended.ensures.reads c.read_bytes-ended.ensures.left
    (sym c.if-ended.true ∙ c.read_bytes-ended.ensures.ends) far

pub returns-else-ended-clause-takes : goal.returns-else-ended-clause-takes
returns-else-ended-clause-takes g c = λ first start far.
    takes_part _ _ first _ _ start _ _ _ c.args.kicks.now _ _ _
    (took_so _ _ c.take.new.into c.in-Ok.count c.in-Ok.ensures.left c.in-Ok.ensures.moved) c.take.ensures.later
    c.have_all_left-over.ensures.pass c.have_all_left-over.ensures.learns c.read_bytes-ended.ensures.reads
    c.if-ended.false far
