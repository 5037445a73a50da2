use Rattle.std.proofs.Common.{◌≡◌, ◌/◌, ◌%◌, ◌<◌, ℕ, length, arith, ap, ◌∙◌, sym, subst}
use Rattle.std.specs.Prelude.{slice_index, slice_set}
use Rattle.std.proofs.lemmas.List.{get_or_read}
use Rattle.packed_lists.specs.Digits.{with_digit, unpacked, ArePacked}
use Rattle.packed_lists.proofs.PackedLemmas.{packed_set, set_packed, length_held, in_words}
use Rattle.packed_lists.proofs.nibbles.Nibbles.set.Goals as goal

pub index-requires : goal.index-requires
index-requires c =
    let words = c.self.inside.words.items in
    let len = c.self.inside.len in
    let packed = c.self.invariant in
    let held = length_held 16 16 len words (omega arith) packed in
    let within : c.args.i < len = omega (arith, c.requires.within, held, ap length c.self.view_is) in
    let there : c.args.i / 16 < length words = in_words 16 len (length words) c.args.i (omega arith) packed.count_of within in
    omega (arith, there, c.self.inside.words.ok.0)

pub index_mut-requires : goal.index_mut-requires
index_mut-requires c =
    let words = c.self.inside.words.items in
    let len = c.self.inside.len in
    let packed = c.self.invariant in
    let held = length_held 16 16 len words (omega arith) packed in
    let within : c.args.i < len = omega (arith, c.requires.within, held, ap length c.self.view_is) in
    let there : c.args.i / 16 < length words = in_words 16 len (length words) c.args.i (omega arith) packed.count_of within in
    omega (arith, there, c.self.inside.words.ok.0)

pub invariant_of-self : goal.invariant_of-self
invariant_of-self c =
    let words = c.self.inside.words.items in
    let len = c.self.inside.len in
    let packed = c.self.invariant in
    let held = length_held 16 16 len words (omega arith) packed in
    let within : c.args.i < len = omega (arith, c.requires.within, held, ap length c.self.view_is) in
    let there : c.args.i / 16 < length words = in_words 16 len (length words) c.args.i (omega arith) packed.count_of within in
    let small : c.args.value < 16 = omega (arith, c.requires.small) in
    let read : c.index.result.now ≡ slice_index words (c.args.i / 16) = get_or_read words (c.args.i / 16) c.index.result.now there c.index.ensures 0 in
    let made : c.with_digit.result ≡ with_digit 16 (c.args.i % 16) (slice_index words (c.args.i / 16)) c.args.value = c.with_digit.ensures ∙ ap (λ w. with_digit 16 (c.args.i % 16) w c.from.result) read ∙ ap (λ v. with_digit 16 (c.args.i % 16) (slice_index words (c.args.i / 16)) v) c.from.ensures in
    subst (λ (w : ℕ). ArePacked 16 16 len (slice_set words (c.args.i / 16) w)) (sym made)
    (set_packed 16 16 len words (c.args.i / 16) (c.args.i % 16) c.args.value c.args.i small within there (omega arith) (omega arith) packed)

pub returns : goal.returns
returns c =
    let words = c.self.inside.words.items in
    let len = c.self.inside.len in
    let packed = c.self.invariant in
    let held = length_held 16 16 len words (omega arith) packed in
    let within : c.args.i < len = omega (arith, c.requires.within, held, ap length c.self.view_is) in
    let there : c.args.i / 16 < length words = in_words 16 len (length words) c.args.i (omega arith) packed.count_of within in
    let small : c.args.value < 16 = omega (arith, c.requires.small) in
    let read : c.index.result.now ≡ slice_index words (c.args.i / 16) = get_or_read words (c.args.i / 16) c.index.result.now there c.index.ensures 0 in
    let made : c.with_digit.result ≡ with_digit 16 (c.args.i % 16) (slice_index words (c.args.i / 16)) c.args.value = c.with_digit.ensures ∙ ap (λ w. with_digit 16 (c.args.i % 16) w c.from.result) read ∙ ap (λ v. with_digit 16 (c.args.i % 16) (slice_index words (c.args.i / 16)) v) c.from.ensures in
    ap (λ w. unpacked 16 16 len (slice_set words (c.args.i / 16) w)) made
    ∙ packed_set 16 16 len words (c.args.i / 16) (c.args.i % 16) c.args.value c.args.i small within there (omega arith) (omega arith)
    ∙ ap (λ v. slice_set v c.args.i c.args.value) c.self.view_is
