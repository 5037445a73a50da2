use Rattle.std.proofs.Common.{arith, ◌≡◌, ◌≤◌, ◌++◌, ℕ, ◌*◌, List, length, drop, ap, ap₂, ◌∙◌}
use Rattle.c_worlds.specs.Sights.{flags_of}
use Rattle.c_worlds.proofs.SightLemmas.{flags_length}
use Rattle.c_worlds.proofs.WriteLemmas.{all_written}
use Rattle.c_worlds.proofs.sights.write_flags.Goals as goal

pub returns : goal.returns
returns c =
    let s = c.args.shroud.now in
    let values : List ℕ = flags_of c.args.client s in
    let count : length values ≡ s.width * s.height = flags_length s c.args.client in
    let area : c.from.result * c.from-2.result ≡ s.width * s.height =
    ap₂ (λ a b. a * b) (c.from.ensures ∙ c.width.ensures) (c.from-2.ensures ∙ c.height.ensures) in
    let most : c.loop-i.i ≤ c.from.result * c.from-2.result = c.loop-i.auto.i-end in
    let past : c.from.result * c.from-2.result ≤ c.loop-i.i = c.loop-i-test.false in
    let end : c.loop-i.i ≡ length values = omega (arith, count, area, most, past) in
    all_written values c.args.out.now c.loop-i.out c.loop-i.i end c.loop-i.invariant
    ∙ ap (λ n. values ++ drop n c.args.out.now) count
