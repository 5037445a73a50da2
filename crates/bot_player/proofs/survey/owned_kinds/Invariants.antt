use Rattle.std.proofs.Common.{◌≡◌, take}
use Rattle.bot_player.specs.Survey.{owned_of}
use Rattle.bot_player.proofs.survey.owned_kinds.Given as goal

abbrev pub invariant-loop-i : goal.invariant-loop-i
invariant-loop-i g l = l.owned ≡ owned_of l.c (take l.i (g.A.LendsActors.actors_of l.fn.actors))
