use Rattle.std.proofs.Common.{rules, refl}
use Rattle.match_serve.proofs.ConsoleLemmas.{next_line, byte_kept}
use Rattle.match_serve.proofs.console.read_byte.Goals as goal

pub returns-then-byte-eq-LINE_END-clause-reads : goal.returns-then-byte-eq-LINE_END-clause-reads
returns-then-byte-eq-LINE_END-clause-reads g c = λ before start far.
    next_line _ _ before c.args.byte start _ _ (search rules) (c.end_line.ensures.ends before start far)

pub returns-clause-reads : goal.returns-clause-reads
returns-clause-reads g c = λ before start far.
    byte_kept _ _ before c.args.byte start _ c.args.kicks.now _ (search rules) c.keep_byte.ensures refl far
