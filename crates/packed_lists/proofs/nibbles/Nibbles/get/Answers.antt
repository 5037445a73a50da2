use Rattle.std.proofs.Common.{◌≡◌, ◌/◌, ◌%◌, ◌<◌, length, Some, arith, ap, ◌∙◌, sym}
use Rattle.std.specs.Prelude.{slice_get, slice_index}
use Rattle.std.proofs.lemmas.List.{get_or_read}
use Rattle.packed_lists.specs.Digits.{digit}
use Rattle.packed_lists.proofs.PackedLemmas.{packed_get, length_held, in_words}
use Rattle.packed_lists.proofs.nibbles.Nibbles.get.Goals as goal

pub index-requires : goal.index-requires
index-requires c =
    let words = c.self.inside.words.items in
    let len = c.self.inside.len in
    let packed = c.self.invariant in
    let held = length_held 16 16 len words (omega arith) packed in
    let within : c.args.i < len = omega (arith, c.requires, held, ap length c.self.view_is) in
    let there : c.args.i / 16 < length words = in_words 16 len (length words) c.args.i (omega arith) packed.count_of within in
    omega (arith, there, c.self.inside.words.ok.0)

pub returns-clause-value : goal.returns-clause-value
returns-clause-value c =
    let words = c.self.inside.words.items in
    let len = c.self.inside.len in
    let packed = c.self.invariant in
    let held = length_held 16 16 len words (omega arith) packed in
    let within : c.args.i < len = omega (arith, c.requires, held, ap length c.self.view_is) in
    let there : c.args.i / 16 < length words = in_words 16 len (length words) c.args.i (omega arith) packed.count_of within in
    let read : c.index.result.now ≡ slice_index words (c.args.i / 16) = get_or_read words (c.args.i / 16) c.index.result.now there c.index.ensures 0 in
    ap (λ v. slice_get v c.args.i) (sym c.self.view_is)
    ∙ packed_get 16 16 len words (c.args.i / 16) (c.args.i % 16) c.args.i within there (omega arith) (omega arith)
    ∙ ap Some (ap (digit 16 (c.args.i % 16)) (sym read) ∙ sym c.digit.ensures.value)
