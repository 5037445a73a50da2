use Rattle.std.proofs.Common.{arith, ◌≡◌, ◌<◌, ◌≤◌, ◌++◌, ℕ, ◌+◌, length, map, drop, Some, ap, sym, subst, ◌∙◌}
use Rattle.std.specs.Option.{option_copied}
use Rattle.c_worlds.specs.Actors.{c_actor_of}
use Rattle.c_worlds.proofs.WriteLemmas.{all_written, counted, inside, mapped, one_more}
use Rattle.c_worlds.proofs.actors.write_actors.Goals as goal

pub unreachable-requires : goal.unreachable-requires
unreachable-requires c =
    inside c.args.game.now.world.actors c.loop-i.i (sym c.actor_at.ensures ∙ ap option_copied c.in_default.is)
    (subst (λ (n : ℕ). c.loop-i.i < n) c.actor_count-i-end.ensures.count c.loop-i-test.true)

pub loop-i-preserved : goal.loop-i-preserved
loop-i-preserved c =
    let actors = c.args.game.now.world.actors in
    let lt : c.loop-i.i < length actors = subst (λ (n : ℕ). c.loop-i.i < n) c.actor_count-i-end.ensures.count c.loop-i-test.true in
    let room : length actors ≤ length c.args.out.now = c.requires in
    one_more (map c_actor_of actors) c.args.out.now c.loop-i.out c.loop-i.i (c.loop-i.i + 1) c.c_actor.result (omega arith)
    (mapped c_actor_of actors c.loop-i.i c.in-Some.actor.now (sym c.actor_at.ensures ∙ ap option_copied c.in-Some.is) ∙ ap Some (sym c.c_actor.ensures))
    (omega arith) c.loop-i.invariant

pub returns : goal.returns
returns c =
    let actors = c.args.game.now.world.actors in
    let most : c.loop-i.i ≤ c.actor_count-i-end.result = c.loop-i.auto.i-end in
    let past : c.actor_count-i-end.result ≤ c.loop-i.i = c.loop-i-test.false in
    let all : c.actor_count-i-end.result ≡ length actors = c.actor_count-i-end.ensures.count in
    let count : length (map c_actor_of actors) ≡ length actors = counted c_actor_of actors in
    let end : c.loop-i.i ≡ length (map c_actor_of actors) = omega arith in
    all_written (map c_actor_of actors) c.args.out.now c.loop-i.out c.loop-i.i end c.loop-i.invariant
    ∙ ap (λ n. map c_actor_of actors ++ drop n c.args.out.now) count
