use Rattle.std.proofs.Common.{◌≡◌, ◌+◌, ◌/◌, ℕ, length, arith, ap, ◌∙◌, sym, subst}
use Rattle.packed_lists.specs.Digits.{unpacked, ArePacked}
use Rattle.packed_lists.proofs.PackedLemmas.{length_held, whole_written}
use Rattle.packed_lists.proofs.nibbles.Nibbles.copy_from.Goals as goal

pub copy_words-requires : goal.copy_words-requires
copy_words-requires c =
    let lens : c.self.inside.len ≡ c.other.inside.len = sym (length_held 16 16 c.self.inside.len c.self.inside.words.items (omega arith) c.self.invariant) ∙ ap length c.self.view_is ∙ c.requires ∙ sym (ap length c.other.view_is) ∙ length_held 16 16 c.other.inside.len c.other.inside.words.items (omega arith) c.other.invariant in
    let sizes : length c.self.inside.words.items ≡ length c.other.inside.words.items = c.self.invariant.count_of ∙ ap (λ l. (l + 15) / 16) lens ∙ sym c.other.invariant.count_of in
    ap length c.as_mut_slice.ensures.value ∙ sizes ∙ sym (ap length c.as_slice.ensures.value)

pub invariant_of-self : goal.invariant_of-self
invariant_of-self c =
    let lens : c.self.inside.len ≡ c.other.inside.len = sym (length_held 16 16 c.self.inside.len c.self.inside.words.items (omega arith) c.self.invariant) ∙ ap length c.self.view_is ∙ c.requires ∙ sym (ap length c.other.view_is) ∙ length_held 16 16 c.other.inside.len c.other.inside.words.items (omega arith) c.other.invariant in
    let sizes : length c.self.inside.words.items ≡ length c.other.inside.words.items = c.self.invariant.count_of ∙ ap (λ l. (l + 15) / 16) lens ∙ sym c.other.invariant.count_of in
    let is : c.copy_words.new.words ≡ c.other.inside.words.items = c.copy_words.ensures ∙ c.as_slice.ensures.value in
    let whole : c.self.inside.words.len ≡ length c.copy_words.new.words = omega (arith, c.self.inside.words.ok.0, sizes, ap length is) in
    subst (ArePacked 16 16 c.self.inside.len) (sym (whole_written c.self.inside.words.len c.copy_words.new.words _ whole ∙ is))
    (subst (λ (l : ℕ). ArePacked 16 16 l c.other.inside.words.items) (sym lens) c.other.invariant)

pub returns : goal.returns
returns c =
    let lens : c.self.inside.len ≡ c.other.inside.len = sym (length_held 16 16 c.self.inside.len c.self.inside.words.items (omega arith) c.self.invariant) ∙ ap length c.self.view_is ∙ c.requires ∙ sym (ap length c.other.view_is) ∙ length_held 16 16 c.other.inside.len c.other.inside.words.items (omega arith) c.other.invariant in
    let sizes : length c.self.inside.words.items ≡ length c.other.inside.words.items = c.self.invariant.count_of ∙ ap (λ l. (l + 15) / 16) lens ∙ sym c.other.invariant.count_of in
    let is : c.copy_words.new.words ≡ c.other.inside.words.items = c.copy_words.ensures ∙ c.as_slice.ensures.value in
    let whole : c.self.inside.words.len ≡ length c.copy_words.new.words = omega (arith, c.self.inside.words.ok.0, sizes, ap length is) in
    ap (λ ws. unpacked 16 16 c.self.inside.len ws) (whole_written c.self.inside.words.len c.copy_words.new.words _ whole ∙ is)
    ∙ ap (λ l. unpacked 16 16 l c.other.inside.words.items) lens
    ∙ c.other.view_is
