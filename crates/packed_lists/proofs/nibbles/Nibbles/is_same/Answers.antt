use Rattle.std.proofs.Common.{◌≡◌, arith, ap, ◌∙◌, sym}
use Rattle.std.proofs.lemmas.Bool.{eqb-true, eq-eqb}
use Rattle.packed_lists.specs.Digits.{unpacked}
use Rattle.packed_lists.proofs.PackedLemmas.{unpacked_told}
use Rattle.packed_lists.proofs.nibbles.Nibbles.is_same.Goals as goal

pub returns-then-self-other : goal.returns-then-self-other
returns-then-self-other c = (
  λ yes. let same : c.self.inside.words.items ≡ c.other.inside.words.items = sym c.as_slice.ensures.value ∙ c.same_words.ensures.0 yes ∙ c.as_slice-then-self-other.ensures.value in
      sym c.self.view_is ∙ ap (λ l. unpacked 16 16 l c.self.inside.words.items) c.if-self-other.true ∙ ap (unpacked 16 16 c.other.inside.len) same ∙ c.other.view_is,
  λ e. let told = unpacked_told 16 16 c.self.inside.len c.other.inside.len c.self.inside.words.items c.other.inside.words.items (omega arith) (omega arith) c.self.invariant c.other.invariant (c.self.view_is ∙ e ∙ sym c.other.view_is) in
      c.same_words.ensures.1 (c.as_slice.ensures.value ∙ told.1 ∙ sym c.as_slice-then-self-other.ensures.value),
)

pub returns-else-self-other : goal.returns-else-self-other
returns-else-self-other c = (
  λ yes. absurd (c.if-self-other.false (eqb-true c.self.inside.len c.other.inside.len yes)),
  λ e. let told = unpacked_told 16 16 c.self.inside.len c.other.inside.len c.self.inside.words.items c.other.inside.words.items (omega arith) (omega arith) c.self.invariant c.other.invariant (c.self.view_is ∙ e ∙ sym c.other.view_is) in eq-eqb c.self.inside.len c.other.inside.len told.0,
)
