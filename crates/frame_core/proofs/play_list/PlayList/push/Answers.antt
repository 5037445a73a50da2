use Rattle.std.proofs.Common.{◌∙◌, ◌∷◌, [], ◌++◌, ap, arith}
use Rattle.frame_core.proofs.PlayListLemmas.{pushed}
use Rattle.frame_core.proofs.play_list.PlayList.push.Goals as goal

pub invariant_of-self-2 : goal.invariant_of-self-2
invariant_of-self-2 c =
    (pushed c.self.inside.pool.items c.extend_from_slice.new.self.items c.self.inside.parts.items c.reserve.new.self.items
    c.push_reserved.new.self.items c.args.orders.now c.as_slice.result.now _ _ c.self.invariant c.reserve.ensures.items
    c.push_reserved.ensures.items c.in_ok-extend_from_slice.ensures.items c.as_slice.ensures.value
    (omega (arith, c.in-Ok.ensures, c.len.ensures)) (omega (arith, c.len-2.ensures.value, c.len-2.ensures.limit))
    (omega (arith, c.len-2.ensures.value, c.len-2.ensures.limit))).stored

pub returns-clause-ok : goal.returns-clause-ok
returns-clause-ok c =
    (pushed c.self.inside.pool.items c.extend_from_slice.new.self.items c.self.inside.parts.items c.reserve.new.self.items
    c.push_reserved.new.self.items c.args.orders.now c.as_slice.result.now _ _ c.self.invariant c.reserve.ensures.items
    c.push_reserved.ensures.items c.in_ok-extend_from_slice.ensures.items c.as_slice.ensures.value
    (omega (arith, c.in-Ok.ensures, c.len.ensures)) (omega (arith, c.len-2.ensures.value, c.len-2.ensures.limit))
    (omega (arith, c.len-2.ensures.value, c.len-2.ensures.limit))).seen
    ∙ ap (λ plays. plays ++ c.args.orders.now ∷ []) c.self.view_is
