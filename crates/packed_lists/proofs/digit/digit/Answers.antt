use Rattle.std.proofs.Common.{◌-◌, ◌*◌, ◌/◌, ◌%◌, ◌^◌, sym, ap, ◌∙◌}
use Rattle.std.specs.Prelude.{bit_and}
use Rattle.std.proofs.lemmas.Nat.{one_shl, and_mask}
use Rattle.packed_lists.proofs.DigitLemmas.{pow-mul, digit_by_quotient}
use Rattle.packed_lists.proofs.digit.digit.Goals as goal

pub returns-clause-value : goal.returns-clause-value
returns-clause-value c =
    let b = c.args.bits in
    let p = c.args.place in
    let w = c.args.word in
    ap (λ m. bit_and (w / 2 ^ (b * p)) (m - 1)) (one_shl b 64 c.requires.narrow)
    ∙ and_mask (w / 2 ^ (b * p)) b
    ∙ ap (λ q. w / q % 2 ^ b) (pow-mul 2 b p)
    ∙ sym (digit_by_quotient (2 ^ b) p w)
