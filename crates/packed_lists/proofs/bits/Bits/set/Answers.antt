use Rattle.std.proofs.Common.{◌≡◌, ◌/◌, ◌%◌, ◌<◌, ℕ, length, map, arith, ap, ◌∙◌, sym, subst}
use Rattle.std.specs.Prelude.{slice_index, slice_set}
use Rattle.std.proofs.lemmas.List.{get_or_read}
use Rattle.std.proofs.lemmas.List.{length-map, map-set}
use Rattle.packed_lists.specs.Digits.{with_digit, unpacked, ArePacked}
use Rattle.packed_lists.specs.Digits.{is_one}
use Rattle.packed_lists.proofs.PackedLemmas.{packed_set, set_packed, length_held, in_words}
use Rattle.packed_lists.proofs.bits.Bits.set.Goals as goal

pub index-requires : goal.index-requires
index-requires c =
    let words = c.self.inside.words.items in
    let len = c.self.inside.len in
    let packed = c.self.invariant in
    let held = length_held 2 64 len words (omega arith) packed in
    let within : c.args.i < len = omega (arith, c.requires, held, length-map (unpacked 2 64 c.self.inside.len c.self.inside.words.items) is_one, ap length c.self.view_is) in
    let there : c.args.i / 64 < length words = in_words 64 len (length words) c.args.i (omega arith) packed.count_of within in
    omega (arith, there, c.self.inside.words.ok.0)

pub index_mut-requires : goal.index_mut-requires
index_mut-requires c =
    let words = c.self.inside.words.items in
    let len = c.self.inside.len in
    let packed = c.self.invariant in
    let held = length_held 2 64 len words (omega arith) packed in
    let within : c.args.i < len = omega (arith, c.requires, held, length-map (unpacked 2 64 c.self.inside.len c.self.inside.words.items) is_one, ap length c.self.view_is) in
    let there : c.args.i / 64 < length words = in_words 64 len (length words) c.args.i (omega arith) packed.count_of within in
    omega (arith, there, c.self.inside.words.ok.0)

pub invariant_of-self : goal.invariant_of-self
invariant_of-self c =
    let words = c.self.inside.words.items in
    let len = c.self.inside.len in
    let packed = c.self.invariant in
    let held = length_held 2 64 len words (omega arith) packed in
    let within : c.args.i < len = omega (arith, c.requires, held, length-map (unpacked 2 64 c.self.inside.len c.self.inside.words.items) is_one, ap length c.self.view_is) in
    let there : c.args.i / 64 < length words = in_words 64 len (length words) c.args.i (omega arith) packed.count_of within in
    let value : ℕ = c.flag_digit.result in
    let small : value < 2 = c.flag_digit.ensures.small in
    let read : c.index.result.now ≡ slice_index words (c.args.i / 64) = get_or_read words (c.args.i / 64) c.index.result.now there c.index.ensures 0 in
    let made : c.with_digit.result ≡ with_digit 2 (c.args.i % 64) (slice_index words (c.args.i / 64)) value = c.with_digit.ensures ∙ ap (λ w. with_digit 2 (c.args.i % 64) w value) read in
    subst (λ (w : ℕ). ArePacked 2 64 len (slice_set words (c.args.i / 64) w)) (sym made)
    (set_packed 2 64 len words (c.args.i / 64) (c.args.i % 64) value c.args.i small within there (omega arith) (omega arith) packed)

pub returns : goal.returns
returns c =
    let words = c.self.inside.words.items in
    let len = c.self.inside.len in
    let packed = c.self.invariant in
    let held = length_held 2 64 len words (omega arith) packed in
    let within : c.args.i < len = omega (arith, c.requires, held, length-map (unpacked 2 64 c.self.inside.len c.self.inside.words.items) is_one, ap length c.self.view_is) in
    let there : c.args.i / 64 < length words = in_words 64 len (length words) c.args.i (omega arith) packed.count_of within in
    let value : ℕ = c.flag_digit.result in
    let small : value < 2 = c.flag_digit.ensures.small in
    let read : c.index.result.now ≡ slice_index words (c.args.i / 64) = get_or_read words (c.args.i / 64) c.index.result.now there c.index.ensures 0 in
    let made : c.with_digit.result ≡ with_digit 2 (c.args.i % 64) (slice_index words (c.args.i / 64)) value = c.with_digit.ensures ∙ ap (λ w. with_digit 2 (c.args.i % 64) w value) read in
    ap (λ w. map is_one (unpacked 2 64 len (slice_set words (c.args.i / 64) w))) made
    ∙ ap (map is_one) (packed_set 2 64 len words (c.args.i / 64) (c.args.i % 64) value c.args.i small within there (omega arith) (omega arith))
    ∙ map-set is_one (unpacked 2 64 len words) c.args.i value
    ∙ ap (λ v. slice_set v c.args.i (is_one value)) c.self.view_is
    ∙ ap (λ b. slice_set c.args.self.now c.args.i b) c.flag_digit.ensures.value
