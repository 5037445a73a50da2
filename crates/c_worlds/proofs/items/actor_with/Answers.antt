use Rattle.std.proofs.Common.{arith, ◌≡◌, ◌<◌, ◌+◌, ℕ, true, false, Some, ap, sym, subst, ◌∙◌}
use Rattle.std.specs.Prelude.{◌==◌, slice_get}
use Rattle.std.specs.Option.{option_copied}
use Rattle.std.proofs.lemmas.Bool.Decides.{nat_tests}
use Rattle.c_worlds.proofs.FoundLemmas.{found_here, passed}
use Rattle.c_worlds.proofs.WriteLemmas.{inside}
use Rattle.c_worlds.proofs.items.actor_with.Goals as goal

pub unreachable-requires : goal.unreachable-requires
unreachable-requires c =
    inside c.args.game.now.world.actors c.loop-i.i (sym c.actor_at.ensures ∙ ap option_copied c.in_default.is)
    (subst (λ (n : ℕ). c.loop-i.i < n) c.actor_count-i-end.ensures.count c.loop-i-test.true)

pub returns-then-actor-id : goal.returns-then-actor-id
returns-then-actor-id c =
    let actors = c.args.game.now.world.actors in
    let a = c.in-Some.actor.now in
    let at : slice_get actors c.loop-i.i ≡ Some a = sym c.actor_at.ensures ∙ ap option_copied c.in-Some.is in
    let has : (a.id == c.args.id) ≡ true = grind (arith, nat_tests, c.if-actor-id.true) in
    sym (found_here actors c.loop-i.i c.args.id a at has c.loop-i.invariant)

pub loop-i-preserved : goal.loop-i-preserved
loop-i-preserved c =
    let actors = c.args.game.now.world.actors in
    let a = c.in-Some.actor.now in
    let at : slice_get actors c.loop-i.i ≡ Some a = sym c.actor_at.ensures ∙ ap option_copied c.in-Some.is in
    let other : (a.id == c.args.id) ≡ false = grind (arith, nat_tests, c.if-actor-id.false) in
    passed actors c.loop-i.i (c.loop-i.i + 1) c.args.id a (omega arith) at other c.loop-i.invariant
