use Rattle.std.proofs.Common.{◌∙◌, ◌-◌, sym, ap, arith, length-set}
use Rattle.twister.specs.Sequence.{seeding_step, x_of}
use Rattle.twister.proofs.EarlierWords.{x_seeding}
use Rattle.twister.proofs.Renewals.{after_write}
use Rattle.twister.proofs.block.first_block.Goals as goal

pub loop-i-preserved : goal.loop-i-preserved
loop-i-preserved c = record {
  whole = length-set c.loop-i.block c.loop-i.i c.seeding_word.result ∙ c.loop-i.invariant.whole;
  seeded = λ j below.
      after_write c.loop-i.block c.loop-i.i j c.seeding_word.result (x_of c.args.seed j) (omega arith)
      (λ here.
      c.seeding_word.ensures
      ∙ ap (λ x. seeding_step x c.loop-i.i) (c.loop-i.invariant.seeded (c.loop-i.i - 1) (omega arith))
      ∙ sym (x_seeding c.args.seed c.loop-i.i (omega arith) (omega arith))
      ∙ ap (x_of c.args.seed) (sym here))
      (λ away. c.loop-i.invariant.seeded j (omega arith));
}
