-- Of the lines of all actors those of the others are left.
use Rattle.std.proofs.Common.{drop}
use Rattle.std.specs.List.{flat_map}
use Rattle.world_text.specs.Printing.{state_of, PrintsBut}
use Rattle.world_text.specs.WorldText.{actor_text}
use Rattle.world_text.proofs.worlds.print_actors.Given as goal

abbrev pub invariant-loop-i : goal.invariant-loop-i
invariant-loop-i g l =
    PrintsBut (state_of l.initial.printer (g.K.Sink.state l.initial.out))
    (state_of l.printer (g.K.Sink.state l.out)) (flat_map actor_text l.game.world.actors)
    (flat_map actor_text (drop l.i l.game.world.actors))
