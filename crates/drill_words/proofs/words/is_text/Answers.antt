use Rattle.std.proofs.Common.{arith}
use Rattle.drill_words.proofs.WordsLemmas.{same_text}
use Rattle.drill_words.proofs.words.is_text.Goals as goal

pub returns : goal.returns
returns c =
    same_text _ _ c.loop-index.index c.loop-index.invariant
    (omega (arith, c.loop-index-test.false, c.if-word-text.false))
    (omega (arith, c.loop-index-test.false))
