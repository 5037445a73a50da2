use Rattle.std.proofs.Common.{◌≡◌, drop}
use Rattle.std.specs.Prelude.{find}
use Rattle.bot_player.specs.BotOrders.{is_enemy}
use Rattle.bot_player.proofs.survey.find_enemy.Given as goal

abbrev pub invariant-loop-i : goal.invariant-loop-i
invariant-loop-i g l =
    find (is_enemy l.rules l.c) (drop l.i (g.A.LendsActors.actors_of l.fn.actors))
    ≡ find (is_enemy l.rules l.c) (g.A.LendsActors.actors_of l.fn.actors)
