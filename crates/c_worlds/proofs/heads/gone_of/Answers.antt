use Rattle.std.proofs.Common.{arith, ◌≡◌, ◌<◌, ◌≤◌, ◌+◌, ℕ, List, Bool, false, Some, length, map, refl, sym, ap, ◌∙◌}
use Rattle.std.specs.Prelude.{slice_index_or, replicate}
use Rattle.std.proofs.lemmas.Option.{slice_get-get_or}
use Rattle.game_orders.specs.Order.{flag_number}
use Rattle.c_worlds.proofs.WriteLemmas.{byte_is, mapped, one_more, set_length}
use Rattle.c_worlds.proofs.heads.gone_of.Goals as goal

pub loop-i-preserved : goal.loop-i-preserved
loop-i-preserved c =
    let gone = c.args.gone.now in
    let zeros : List ℕ = replicate 16 0 in
    let flag : Bool = slice_index_or gone c.loop-i.i false in
    let made : c.from.result ≡ flag_number flag = c.from.ensures ∙ byte_is flag in
    let lt : c.loop-i.i < length gone = c.loop-i-test.true in
    let most : length gone ≤ 16 = c.requires in
    let sixteen : length zeros ≡ 16 = refl in
    let room : c.loop-i.i < length zeros = omega (arith, lt, most, sixteen) in (
      one_more (map flag_number gone) zeros c.loop-i.out c.loop-i.i (c.loop-i.i + 1) c.from.result (omega arith)
          (mapped flag_number gone c.loop-i.i flag (slice_get-get_or gone c.loop-i.i false lt) ∙ ap Some (sym made)) room c.loop-i.invariant.0,
      set_length c.loop-i.out c.loop-i.i c.from.result ∙ c.loop-i.invariant.1,
    )
