use Rattle.std.proofs.Common.{arith, ap, sym, ◌∙◌, rules}
use Rattle.std.specs.Option.{option_copied}
use Rattle.std.specs.List.{flat_map}
use Rattle.world_text.proofs.PrintingLemmas.{is_there, item_here, next_item, none_left, prints_none}
use Rattle.world_text.proofs.PrintingLemmas.{prints_whole}
use Rattle.world_text.specs.WorldText.{actor_text}
use Rattle.world_text.proofs.worlds.print_actors.Goals as goal

pub loop-i-init : goal.loop-i-init
loop-i-init g c = prints_none _ _

pub unreachable-requires : goal.unreachable-requires
unreachable-requires g c =
    is_there c.args.game.now.world.actors c.loop-i.i
    (omega (arith, c.loop-i-test.true, c.actor_count-i-end.ensures.count))
    (sym c.actor_at.ensures ∙ ap option_copied c.in_default.is)

pub loop-i-preserved : goal.loop-i-preserved
loop-i-preserved g c =
    next_item actor_text _ _ _ _ c.in-Some.actor.now _ _
    (item_here c.args.game.now.world.actors c.loop-i.i c.in-Some.actor.now
    (sym c.actor_at.ensures ∙ ap option_copied c.in-Some.is))
    c.loop-i.invariant c.print_actor.ensures

pub returns : goal.returns
returns g c =
    prints_whole _ _ _ _
    (ap (flat_map actor_text)
    (none_left c.args.game.now.world.actors c.loop-i.i (search rules)))
    c.loop-i.invariant
