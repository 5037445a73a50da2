use Rattle.std.proofs.Common.{◌≡◌}
use Rattle.std.specs.Prelude.{None}
use Rattle.std.specs.Option.{option_copied}
use Rattle.compare_command.proofs.MergeLemmas.{next_merged, some_left, takes_next}
use Rattle.compare_command.proofs.actors.compare_actors.Goals as goal
use Rattle.compare_command.proofs.actors.compare_actors.Goals.{then-i-actors, else-i-actors+then-j-others}

pub loop-i-preserved : goal.loop-i-preserved
loop-i-preserved c =
    let inv = c.loop-i.invariant in
    let given = c.in_ok-taken.ensures in
    let actors = c.args.actors.now in
    let others = c.args.others.now in
    let some : option_copied c.item_of.result ≡ None →
    option_copied c.item_of-in-loop-i.result ≡ None → ⊥ =
    elim c.if-i-actors.branch [
      | then-i-actors w ↦ λ none none'. some_left actors c.loop-i.i _ w.if-i-actors.true c.item_of.ensures none
      | else-i-actors+then-j-others w ↦ λ none none'. some_left others c.loop-i.j _ w.if-j-others.true c.item_of-in-loop-i.ensures none'
    ] in
    let took =
    takes_next actors others c.loop-i.i c.loop-i.j _ _ _ c.item_of.ensures
    c.item_of-in-loop-i.ensures given.0 inv.1 inv.2 some in (
      next_merged _ _ _ actors others c.loop-i.i c.loop-i.j _ _ _ c.item_of.ensures
          c.item_of-in-loop-i.ensures given.0 inv.0 given.1,
      took.within,
      took.beside,
    )
