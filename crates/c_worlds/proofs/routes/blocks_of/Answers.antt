use Rattle.std.proofs.Common.{arith, ◌≡◌, ◌<◌, ◌≤◌, ℕ, Bool, length, Some, ap, sym, subst, ◌∙◌}
use Rattle.std.specs.Prelude.{slice_get}
use Rattle.std.specs.Option.{option_copied}
use Rattle.game_model.specs.Grid.{Grid, IsOn}
use Rattle.c_worlds.proofs.RouteLemmas.{marks_all, marks_more, marks_none, stands_on}
use Rattle.c_worlds.proofs.WriteLemmas.{inside}
use Rattle.c_worlds.proofs.routes.blocks_of.Goals as goal

pub loop-i-init : goal.loop-i-init
loop-i-init c = marks_none c.args.game.now.setup c.map-map.result.now c.in_ok-blocks.blocks c.map-map.ensures c.in_ok-blocks.ensures

pub unreachable-requires : goal.unreachable-requires
unreachable-requires c =
    inside c.args.game.now.world.actors c.loop-i.i (sym c.actor_at.ensures ∙ ap option_copied c.in_default.is)
    (subst (λ (n : ℕ). c.loop-i.i < n) c.actor_count-i-end.ensures.count c.loop-i-test.true)

pub mark-requires : goal.mark-requires
mark-requires c =
    let game = c.args.game.now in
    let a = c.in-Some.actor.now in
    let at : slice_get game.world.actors c.loop-i.i ≡ Some a = sym c.actor_at.ensures ∙ ap option_copied c.in-Some.is in
    subst (λ (g : Grid Bool). IsOn g.width g.height a.cell) (sym c.loop-i.invariant)
    (stands_on game.setup game.steps game.world c.loop-i.i a c.head-head.ensures.valid at)

pub loop-i-preserved : goal.loop-i-preserved
loop-i-preserved c =
    let game = c.args.game.now in
    let a = c.in-Some.actor.now in
    let at : slice_get game.world.actors c.loop-i.i ≡ Some a = sym c.actor_at.ensures ∙ ap option_copied c.in-Some.is in
    marks_more game.setup c.rules-rules.result.now game.world.actors c.loop-i.i a c.loop-i.blocks c.mark.new.blocks c.rules-rules.ensures at
    (stands_on game.setup game.steps game.world c.loop-i.i a c.head-head.ensures.valid at) c.loop-i.invariant c.mark.ensures

pub returns : goal.returns
returns c =
    let game = c.args.game.now in
    let past : c.actor_count-i-end.result ≤ c.loop-i.i = c.loop-i-test.false in
    let all : c.actor_count-i-end.result ≡ length game.world.actors = c.actor_count-i-end.ensures.count in
    marks_all game.setup game.world.actors c.loop-i.i c.loop-i.blocks (omega (arith, past, all)) c.loop-i.invariant
