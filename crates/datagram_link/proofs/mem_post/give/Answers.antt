use Rattle.std.proofs.Common.{◌≡◌, ℕ, List, length, take, min, ap, ◌∙◌, arith, length-take-le, take_at}
use Rattle.std.proofs.lemmas.List.{take_min}
use Rattle.datagram_link.proofs.mem_post.give.Goals as goal

take_fits :
    (count : ℕ) (gram : List ℕ) → count ≡ min (length gram) 266 → take count gram ≡ take 266 gram
take_fits count gram is =
    let other : count ≡ min 266 (length gram) = omega arith in
    ap (λ n. take n gram) other ∙ take_min 266 gram

pub returns-clause-given : goal.returns-clause-given
returns-clause-given c =
    let count = c.min-count.result in
    let is = c.min-count.ensures in
    let same : c.copy_from_slice.new.self ≡ take count c.args.gram.now =
    c.copy_from_slice.ensures.after in
    let long : length c.copy_from_slice.new.self ≡ count =
    ap length same ∙ length-take-le count c.args.gram.now (omega arith) in
    take_at c.copy_from_slice.new.self _ count long ∙ same ∙ take_fits count c.args.gram.now is
