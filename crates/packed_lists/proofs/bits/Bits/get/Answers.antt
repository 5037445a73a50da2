use Rattle.std.proofs.Common.{◌≡◌, ◌/◌, ◌%◌, ◌<◌, length, Some, arith, ap, ◌∙◌, sym}
use Rattle.std.specs.Prelude.{slice_get, slice_index}
use Rattle.std.specs.Option.{option_map}
use Rattle.std.proofs.lemmas.List.{get_or_read}
use Rattle.std.proofs.lemmas.Option.{slice_get-map}
use Rattle.std.proofs.lemmas.List.{length-map}
use Rattle.packed_lists.specs.Digits.{digit, unpacked}
use Rattle.packed_lists.specs.Digits.{is_one}
use Rattle.packed_lists.proofs.PackedLemmas.{packed_get, length_held, in_words}
use Rattle.packed_lists.proofs.bits.Bits.get.Goals as goal

pub index-requires : goal.index-requires
index-requires c =
    let words = c.self.inside.words.items in
    let len = c.self.inside.len in
    let packed = c.self.invariant in
    let held = length_held 2 64 len words (omega arith) packed in
    let within : c.args.i < len = omega (arith, c.requires, held, length-map (unpacked 2 64 c.self.inside.len c.self.inside.words.items) is_one, ap length c.self.view_is) in
    let there : c.args.i / 64 < length words = in_words 64 len (length words) c.args.i (omega arith) packed.count_of within in
    omega (arith, there, c.self.inside.words.ok.0)

pub returns : goal.returns
returns c =
    let words = c.self.inside.words.items in
    let len = c.self.inside.len in
    let packed = c.self.invariant in
    let held = length_held 2 64 len words (omega arith) packed in
    let within : c.args.i < len = omega (arith, c.requires, held, length-map (unpacked 2 64 c.self.inside.len c.self.inside.words.items) is_one, ap length c.self.view_is) in
    let there : c.args.i / 64 < length words = in_words 64 len (length words) c.args.i (omega arith) packed.count_of within in
    let read : c.index.result.now ≡ slice_index words (c.args.i / 64) = get_or_read words (c.args.i / 64) c.index.result.now there c.index.ensures 0 in
    ap (λ v. slice_get v c.args.i) (sym c.self.view_is)
    ∙ slice_get-map is_one (unpacked 2 64 len words) c.args.i
    ∙ ap (option_map is_one) (packed_get 2 64 len words (c.args.i / 64) (c.args.i % 64) c.args.i within there (omega arith) (omega arith))
    ∙ ap (λ d. Some (is_one d)) (ap (digit 2 (c.args.i % 64)) (sym read) ∙ sym c.digit.ensures.value)
