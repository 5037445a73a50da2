use Rattle.std.proofs.Common.{ℕ, Some, sym, ap, ◌∙◌, arith}
use Rattle.production.proofs.Exits.{found_direction, no_direction}
use Rattle.production.proofs.exit.find_exit.Goals as goal

pub returns-in-Some-clause-value : goal.returns-in-Some-clause-value
returns-in-Some-clause-value c =
    ap (λ (n : ℕ). Some n) c.in-Some.ensures.same ∙ sym (found_direction _ c.loop-d.d (omega arith) (sym c.in-Some.ensures.value) c.loop-d.invariant)

pub returns-clause-value : goal.returns-clause-value
returns-clause-value c = sym (no_direction _ (λ k low. c.loop-d.invariant k (omega arith)))
